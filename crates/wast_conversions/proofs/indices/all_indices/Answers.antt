use Rattle.std.proofs.Common.{◌≡◌, ◌<◌, length, slice_index_or, arith}
use Rattle.wasm_layout.specs.IsModule.{IsU32}
use Rattle.wast_parser.specs.Identifiers.{index_tree}
use Rattle.wast_conversions.specs.Types.{number_of}
use Rattle.wast_conversions.specs.Resolved.{IsNumber}
use Rattle.wast_conversions.proofs.Each.{of_item, more_meant, one_more, each_meant}
use Rattle.wast_conversions.proofs.indices.all_indices.Goals as goal

pub index-requires : goal.index-requires
index-requires c =
    let l : c.loop-number.number-index < length c.args.indices.now = omega arith in
    let e : c.number-item.result ≡ slice_index_or c.args.indices.now c.loop-number.number-index c.number-item.result = cc in
    of_item IsNumber index_tree c.args.indices.now c.loop-number.number-index c.number-item.result l e c.requires

pub loop-number-preserved : goal.loop-number-preserved
loop-number-preserved c = record {
  same = more_meant number_of index_tree c.args.indices.now c.loop-number.number-index c.number-item.result c.loop-number.numbers.items c.push.new.self.items c.index.result c.loop-number-test.true c.number-item.is
      c.loop-number.invariant.same c.index.ensures.same c.in_ok-push.ensures.items;
  sound = one_more (λ i. IsU32 (number_of (index_tree i))) c.args.indices.now c.loop-number.number-index c.number-item.result c.loop-number-test.true c.number-item.is c.loop-number.invariant.sound c.index.ensures.sound;
}

pub returns-clause-sound : goal.returns-clause-sound
returns-clause-sound c = each_meant IsU32 number_of index_tree c.args.indices.now c.loop-number.number-index c.loop-number-test.false c.loop-number.invariant.sound
