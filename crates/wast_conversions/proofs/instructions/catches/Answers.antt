use Rattle.std.proofs.Common.{◌≡◌, ◌<◌, map, length, slice_index_or, arith}
use Rattle.wasm_encoder_base.specs.Instr.{IsCatch}
use Rattle.wasm_encoder_instr.specs.Catch.{catch_view}
use Rattle.wast_typed_operands.specs.TypedViews.{catch_tree}
use Rattle.wast_conversions.specs.Operands.{catch_meant}
use Rattle.wast_conversions.specs.Resolved.{CatchResolved}
use Rattle.wast_conversions.proofs.Each.{of_item, more_meant, more_viewed, one_more, each_meant}
use Rattle.wast_conversions.proofs.instructions.catches.Goals as goal

pub catch-requires : goal.catch-requires
catch-requires c =
    let l : c.loop-clause.clause-index < length c.args.clauses.now = omega arith in
    let e : c.clause-item.result ≡ slice_index_or c.args.clauses.now c.loop-clause.clause-index c.clause-item.result = cc in
    of_item CatchResolved catch_tree c.args.clauses.now c.loop-clause.clause-index c.clause-item.result l e c.requires

pub loop-clause-preserved : goal.loop-clause-preserved
loop-clause-preserved c = record {
  same = more_meant catch_meant catch_tree c.args.clauses.now c.loop-clause.clause-index c.clause-item.result (map catch_view c.loop-clause.converted.items) (map catch_view c.push.new.self.items) (catch_view c.catch.result) c.loop-clause-test.true c.clause-item.is
      c.loop-clause.invariant.same c.catch.ensures.same (more_viewed catch_view c.loop-clause.converted.items c.push.new.self.items c.catch.result c.in_ok-push.ensures.items);
  sound = one_more (λ c. IsCatch (catch_meant (catch_tree c))) c.args.clauses.now c.loop-clause.clause-index c.clause-item.result c.loop-clause-test.true c.clause-item.is c.loop-clause.invariant.sound c.catch.ensures.sound;
}

pub returns-clause-sound : goal.returns-clause-sound
returns-clause-sound c = each_meant IsCatch catch_meant catch_tree c.args.clauses.now c.loop-clause.clause-index c.loop-clause-test.false c.loop-clause.invariant.sound
