use Rattle.wasm_encoder_base.proofs.ListLaws.{unique_section}
use Rattle.wasm_encoder_base.proofs.UniqueBytes.{unique_name, unique_sized}
use Rattle.wasm_encoder_base.proofs.UniqueLeb.{unique_uleb}
use Rattle.wasm_encoder_base.proofs.UniqueParts.{injective_of}
use Rattle.wasm_encoder_items.proofs.UniqueEntities.{unique_limits, unique_tag}
use Rattle.wasm_encoder_items.proofs.UniqueItems.{unique_entry, unique_imports, unique_table_item, unique_global_item, unique_export, unique_element, unique_data, unique_expression}
use Rattle.wasm_encoder_sections.proofs.laws.one_section.Goals as goal

pub returns : goal.returns
returns c = record {
  types = unique_section unique_entry;
  imports = unique_section unique_imports;
  functions = unique_section unique_uleb;
  tables = unique_section (unique_table_item unique_expression);
  memories = unique_section unique_limits;
  tags = unique_section unique_tag;
  globals = unique_section (unique_global_item unique_expression);
  exports = unique_section unique_export;
  start = unique_sized (injective_of unique_uleb);
  elements = unique_section (unique_element unique_expression);
  data_count = unique_sized (injective_of unique_uleb);
  codes = unique_section unique_name;
  segments = unique_section (unique_data unique_expression);
}
