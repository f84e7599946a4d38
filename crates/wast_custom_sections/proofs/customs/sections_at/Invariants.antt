use Rattle.std.proofs.Common.{◌≡◌, map, take, flat_map}
use Rattle.std.specs.Prelude.{All}
use Rattle.wasm_encoder_custom.specs.Custom.{CustomFits}
use Rattle.wast_customs.specs.CustomViews.{place_tree}
use Rattle.wast_module_fields.specs.ModuleFieldViews.{field_tree}
use Rattle.wast_custom_sections.specs.Parts.{section_bytes, sections_at}
use Rattle.wast_custom_sections.proofs.customs.sections_at.Given as goal

abbrev pub invariant-loop-field : goal.invariant-loop-field
invariant-loop-field l = record {
  made : l.sections.items ≡ flat_map section_bytes (sections_at (map field_tree (take l.field-index l.fields)) (place_tree l.place));
  fits : All CustomFits (sections_at (map field_tree (take l.field-index l.fields)) (place_tree l.place));
}
