-- What the code's type entries stand for, and which counts of them have to fit.
use Rattle.std.specs.Prelude.{◌<◌, ◌^◌, length, map, All}
use Rattle.wasm_encoder_base.specs.Types.{Function, Struct}
use Rattle.wasm_encoder_base.specs.Views.{val_view, field_view, sub_view, composite_fits}
use Rattle.wasm_encoder_items.specs.TypeEntries as entries
use Rattle.wasm_encoder_items.specs.declared.entries.Signature.{Signature}
use Rattle.wasm_encoder_items.specs.declared.entries.Fields.{Fields}
use Rattle.wasm_encoder_items.specs.declared.entries.Group.{Group}

abbrev pub signature_view : Signature → entries.TypeEntry
signature_view s = entries.plain (Function (record { params = map val_view s.params.now; results = map val_view s.results.now }))

abbrev pub fields_view : Fields → entries.TypeEntry
fields_view fields = entries.plain (Struct (map field_view fields.0.now))

abbrev pub group_view : Group → entries.TypeEntry
group_view group = entries.TypeGroup (map sub_view group.0.now)

abbrev pub SignatureFits : Signature → Type 0
SignatureFits s = (length s.params.now < 2 ^ 32) × (length s.results.now < 2 ^ 32)

abbrev pub GroupFits : Group → Type 0
GroupFits group = (length group.0.now < 2 ^ 32) × All (λ t. composite_fits t.composite_type) group.0.now
