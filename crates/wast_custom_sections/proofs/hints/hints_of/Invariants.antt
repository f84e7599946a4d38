use Rattle.std.proofs.Common.{◌≡◌, length, map, take, flat_map}
use Rattle.std.specs.Prelude.{All}
use Rattle.wasm_encoder_base.specs.Lists.{listed}
use Rattle.wast_module_fields.specs.ModuleFieldViews.{field_tree}
use Rattle.wast_meant.specs.NamesMeant.{bodies_in}
use Rattle.wast_custom_sections.specs.Hinted.{HintedFits, hinted_bytes, hinted_from}
use Rattle.wast_custom_sections.proofs.Numbered.{capped}
use Rattle.wast_custom_sections.proofs.hints.hints_of.Given as goal

abbrev pub invariant-loop-field : goal.invariant-loop-field
invariant-loop-field l = record {
  made : l.section ≡ listed hinted_bytes (hinted_from 0 (flat_map bodies_in (map field_tree (take l.field-index l.fields))));
  fits : All HintedFits (hinted_from 0 (flat_map bodies_in (map field_tree (take l.field-index l.fields))));
  numbered : l.number ≡ capped (length (flat_map bodies_in (map field_tree (take l.field-index l.fields))));
}
