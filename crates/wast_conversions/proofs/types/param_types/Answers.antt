use Rattle.std.proofs.Common.{◌≡◌, ◌<◌, map, length, slice_index_or, arith}
use Rattle.wasm_encoder_base.specs.Types.{IsValType}
use Rattle.wasm_encoder_base.specs.Views.{val_view}
use Rattle.wast_signatures.specs.SignatureViews.{param_tree}
use Rattle.wast_conversions.specs.Types.{val_meant}
use Rattle.wast_conversions.specs.Resolved.{ValResolved}
use Rattle.wast_conversions.specs.Covered.{val_forms}
use Rattle.wast_conversions.proofs.Each.{of_item, none_of_item, more_meant, more_viewed, one_more, each_meant}
use Rattle.wast_conversions.proofs.types.param_types.Goals as goal

pub param_type-requires-clause-resolved : goal.param_type-requires-clause-resolved
param_type-requires-clause-resolved c =
    let l : c.loop-param.param-index < length c.args.params.now = omega arith in
    let e : c.param-item.result ≡ slice_index_or c.args.params.now c.loop-param.param-index c.param-item.result = cc in
    of_item (λ p. ValResolved p.val_type) param_tree c.args.params.now c.loop-param.param-index c.param-item.result l e c.requires.resolved

pub param_type-requires-clause-covered : goal.param_type-requires-clause-covered
param_type-requires-clause-covered c =
    let l : c.loop-param.param-index < length c.args.params.now = omega arith in
    let e : c.param-item.result ≡ slice_index_or c.args.params.now c.loop-param.param-index c.param-item.result = cc in
    none_of_item (λ p. val_forms p.val_type) param_tree c.args.params.now c.loop-param.param-index c.param-item.result l e c.requires.covered

pub loop-param-preserved : goal.loop-param-preserved
loop-param-preserved c = record {
  same = more_meant (λ p. val_meant p.val_type) param_tree c.args.params.now c.loop-param.param-index c.param-item.result (map val_view c.loop-param.types.items) (map val_view c.push.new.self.items) (val_view c.param_type.result) c.loop-param-test.true c.param-item.is
      c.loop-param.invariant.same c.param_type.ensures.same (more_viewed val_view c.loop-param.types.items c.push.new.self.items c.param_type.result c.in_ok-push.ensures.items);
  sound = one_more (λ p. IsValType (val_meant (param_tree p).val_type)) c.args.params.now c.loop-param.param-index c.param-item.result c.loop-param-test.true c.param-item.is c.loop-param.invariant.sound c.param_type.ensures.sound;
}

pub returns-clause-sound : goal.returns-clause-sound
returns-clause-sound c = each_meant IsValType (λ p. val_meant p.val_type) param_tree c.args.params.now c.loop-param.param-index c.loop-param-test.false c.loop-param.invariant.sound
