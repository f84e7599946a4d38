use Rattle.std.proofs.Common.{◌≡◌, ◌<◌, map, length, slice_index_or, arith}
use Rattle.wasm_encoder_base.specs.Types.{IsValType}
use Rattle.wasm_encoder_base.specs.Views.{val_view}
use Rattle.wast_value_types.specs.ValueViews.{val_tree}
use Rattle.wast_conversions.specs.Types.{val_meant}
use Rattle.wast_conversions.specs.Resolved.{ValResolved}
use Rattle.wast_conversions.specs.Covered.{val_forms}
use Rattle.wast_conversions.proofs.Each.{of_item, none_of_item, more_meant, more_viewed, one_more, each_meant}
use Rattle.wast_conversions.proofs.types.val_types.Goals as goal

pub val_type-requires-clause-resolved : goal.val_type-requires-clause-resolved
val_type-requires-clause-resolved c =
    let l : c.loop-ty.ty-index < length c.args.types.now = omega arith in
    let e : c.ty-item.result ≡ slice_index_or c.args.types.now c.loop-ty.ty-index c.ty-item.result = cc in
    of_item ValResolved val_tree c.args.types.now c.loop-ty.ty-index c.ty-item.result l e c.requires.resolved

pub val_type-requires-clause-covered : goal.val_type-requires-clause-covered
val_type-requires-clause-covered c =
    let l : c.loop-ty.ty-index < length c.args.types.now = omega arith in
    let e : c.ty-item.result ≡ slice_index_or c.args.types.now c.loop-ty.ty-index c.ty-item.result = cc in
    none_of_item val_forms val_tree c.args.types.now c.loop-ty.ty-index c.ty-item.result l e c.requires.covered

pub loop-ty-preserved : goal.loop-ty-preserved
loop-ty-preserved c = record {
  same = more_meant val_meant val_tree c.args.types.now c.loop-ty.ty-index c.ty-item.result (map val_view c.loop-ty.converted.items) (map val_view c.push.new.self.items) (val_view c.val_type.result) c.loop-ty-test.true c.ty-item.is
      c.loop-ty.invariant.same c.val_type.ensures.same (more_viewed val_view c.loop-ty.converted.items c.push.new.self.items c.val_type.result c.in_ok-push.ensures.items);
  sound = one_more (λ t. IsValType (val_meant (val_tree t))) c.args.types.now c.loop-ty.ty-index c.ty-item.result c.loop-ty-test.true c.ty-item.is c.loop-ty.invariant.sound c.val_type.ensures.sound;
}

pub returns-clause-sound : goal.returns-clause-sound
returns-clause-sound c = each_meant IsValType val_meant val_tree c.args.types.now c.loop-ty.ty-index c.loop-ty-test.false c.loop-ty.invariant.sound
