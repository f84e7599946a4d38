use Rattle.std.proofs.Common.{◌≡◌, map, take, All}
use Rattle.wasm_encoder_base.specs.Types.{IsValType}
use Rattle.wasm_encoder_base.specs.Views.{val_view}
use Rattle.wast_value_types.specs.ValueViews.{val_tree}
use Rattle.wast_conversions.specs.Types.{val_meant}
use Rattle.wast_conversions.proofs.types.val_types.Given as goal

abbrev pub invariant-loop-ty : goal.invariant-loop-ty
invariant-loop-ty l = record {
  same : map val_view l.converted.items ≡ map val_meant (map val_tree (take l.ty-index l.types));
  sound : All (λ t. IsValType (val_meant (val_tree t))) (take l.ty-index l.types);
}
