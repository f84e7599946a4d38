use Rattle.std.proofs.Common.{◌≡◌, map, take, All}
use Rattle.wasm_encoder_base.specs.Types.{IsValType}
use Rattle.wasm_encoder_base.specs.Views.{val_view}
use Rattle.wast_fields.specs.FuncViews.{local_tree}
use Rattle.wast_conversions.specs.Types.{val_meant}
use Rattle.wast_section_items.proofs.body.local_types.Given as goal

abbrev pub invariant-loop-local : goal.invariant-loop-local
invariant-loop-local l = record {
  same : map val_view l.types.items ≡ map (λ l. val_meant l.val_type) (map local_tree (take l.local-index l.locals));
  sound : All (λ l. IsValType (val_meant (local_tree l).val_type)) (take l.local-index l.locals);
}
