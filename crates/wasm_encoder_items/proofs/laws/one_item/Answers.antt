use Rattle.wasm_encoder_base.proofs.UniqueBytes.{unique_sized}
use Rattle.wasm_encoder_base.proofs.UniqueLeb.{unique_uleb}
use Rattle.wasm_encoder_code.proofs.Unique.{injective_body}
use Rattle.wasm_encoder_items.proofs.UniqueEntities.{unique_limits, unique_tag}
use Rattle.wasm_encoder_items.proofs.UniqueItems.{unique_entry, unique_imports, unique_table_item, unique_global_item, unique_export, unique_element, unique_data, unique_expression}
use Rattle.wasm_encoder_items.proofs.laws.one_item.Goals as goal

pub returns : goal.returns
returns c = record {
  types = unique_entry;
  imports = unique_imports;
  functions = unique_uleb;
  tables = unique_table_item unique_expression;
  memories = unique_limits;
  tags = unique_tag;
  globals = unique_global_item unique_expression;
  exports = unique_export;
  elements = unique_element unique_expression;
  codes = unique_sized injective_body;
  segments = unique_data unique_expression;
}
