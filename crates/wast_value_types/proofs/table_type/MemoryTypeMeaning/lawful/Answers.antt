use Rattle.wast_value_types.proofs.ValueLaws.{memory_type_laws}
use Rattle.wast_value_types.proofs.table_type.MemoryTypeMeaning.lawful.Goals as goal

pub returns : goal.returns
returns c = memory_type_laws
