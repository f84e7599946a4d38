use Rattle.wasm_encoder_items.proofs.UniqueItems.{unique_table_item, unique_global_item, unique_element, unique_data, unique_ended}
use Rattle.wasm_encoder_items.proofs.laws.one_written_item.Goals as goal

pub returns : goal.returns
returns c = record {
  tables = unique_table_item unique_ended;
  globals = unique_global_item unique_ended;
  elements = unique_element unique_ended;
  segments = unique_data unique_ended;
}
