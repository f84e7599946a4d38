use Rattle.std.proofs.Common.{◌≡◌, map, take, All}
use Rattle.wasm_encoder_base.specs.Types.{IsValType}
use Rattle.wasm_encoder_base.specs.Views.{val_view}
use Rattle.wast_signatures.specs.SignatureViews.{param_tree}
use Rattle.wast_conversions.specs.Types.{val_meant}
use Rattle.wast_conversions.proofs.types.param_types.Given as goal

abbrev pub invariant-loop-param : goal.invariant-loop-param
invariant-loop-param l = record {
  same : map val_view l.types.items ≡ map (λ p. val_meant p.val_type) (map param_tree (take l.param-index l.params));
  sound : All (λ p. IsValType (val_meant (param_tree p).val_type)) (take l.param-index l.params);
}
