use Rattle.std.proofs.Common.{◌≡◌, ◌<◌, map, length, slice_index_or, arith}
use Rattle.wasm_encoder_base.specs.Types.{IsValType}
use Rattle.wasm_encoder_base.specs.Views.{val_view}
use Rattle.wast_fields.specs.FuncViews.{local_tree}
use Rattle.wast_conversions.specs.Types.{val_meant}
use Rattle.wast_conversions.specs.Resolved.{ValResolved}
use Rattle.wast_conversions.specs.Covered.{val_forms}
use Rattle.wast_conversions.proofs.Each.{of_item, none_of_item, more_meant, more_viewed, one_more, each_meant}
use Rattle.wast_section_items.proofs.body.local_types.Goals as goal

pub val_type-requires-clause-resolved : goal.val_type-requires-clause-resolved
val_type-requires-clause-resolved c =
    let l : c.loop-local.local-index < length c.args.locals.now = omega arith in
    let e : c.local-item.result ≡ slice_index_or c.args.locals.now c.loop-local.local-index c.local-item.result = cc in
    of_item (λ l. ValResolved l.val_type) local_tree c.args.locals.now c.loop-local.local-index c.local-item.result l e c.requires.resolved

pub val_type-requires-clause-covered : goal.val_type-requires-clause-covered
val_type-requires-clause-covered c =
    let l : c.loop-local.local-index < length c.args.locals.now = omega arith in
    let e : c.local-item.result ≡ slice_index_or c.args.locals.now c.loop-local.local-index c.local-item.result = cc in
    none_of_item (λ l. val_forms l.val_type) local_tree c.args.locals.now c.loop-local.local-index c.local-item.result l e c.requires.covered

pub loop-local-preserved : goal.loop-local-preserved
loop-local-preserved c = record {
  same = more_meant (λ l. val_meant l.val_type) local_tree c.args.locals.now c.loop-local.local-index c.local-item.result (map val_view c.loop-local.types.items) (map val_view c.push.new.self.items) (val_view c.val_type.result) c.loop-local-test.true c.local-item.is
      c.loop-local.invariant.same c.val_type.ensures.same (more_viewed val_view c.loop-local.types.items c.push.new.self.items c.val_type.result c.in_ok-push.ensures.items);
  sound = one_more (λ l. IsValType (val_meant (local_tree l).val_type)) c.args.locals.now c.loop-local.local-index c.local-item.result c.loop-local-test.true c.local-item.is c.loop-local.invariant.sound c.val_type.ensures.sound;
}

pub returns-clause-sound : goal.returns-clause-sound
returns-clause-sound c = each_meant IsValType (λ l. val_meant l.val_type) local_tree c.args.locals.now c.loop-local.local-index c.loop-local-test.false c.loop-local.invariant.sound
