use Rattle.wasm_encoder_items.proofs.UniqueEntities.{unique_limits, unique_table, unique_global, unique_tag, unique_entity}
use Rattle.wasm_encoder_items.proofs.laws.one_entity.Goals as goal

pub returns : goal.returns
returns c = record {
  limits = unique_limits;
  table_types = unique_table;
  global_types = unique_global;
  tag_types = unique_tag;
  entity_types = unique_entity;
}
