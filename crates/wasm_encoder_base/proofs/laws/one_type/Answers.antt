use Rattle.wasm_encoder_base.proofs.UniqueTypes.{unique_heap, unique_ref, unique_val, unique_field, unique_func, unique_composite, unique_sub}
use Rattle.wasm_encoder_base.proofs.laws.one_type.Goals as goal

pub returns : goal.returns
returns c = record { heap_types = unique_heap; reference_types = unique_ref; value_types = unique_val; field_types = unique_field; function_types = unique_func; composite_types = unique_composite; sub_types = unique_sub }
