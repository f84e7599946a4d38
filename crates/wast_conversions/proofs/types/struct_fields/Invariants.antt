use Rattle.std.proofs.Common.{◌≡◌, map, take, All}
use Rattle.wasm_encoder_base.specs.Types.{IsStorageType}
use Rattle.wasm_encoder_base.specs.Views.{field_view}
use Rattle.wast_signatures.specs.SignatureViews.{struct_field_tree}
use Rattle.wast_conversions.specs.Types.{field_meant}
use Rattle.wast_conversions.proofs.types.struct_fields.Given as goal

abbrev pub invariant-loop-field : goal.invariant-loop-field
invariant-loop-field l = record {
  same : map field_view l.types.items ≡ map (λ f. field_meant f.field_type) (map struct_field_tree (take l.field-index l.fields));
  sound : All (λ f. IsStorageType (field_meant (struct_field_tree f).field_type).element_type) (take l.field-index l.fields);
}
