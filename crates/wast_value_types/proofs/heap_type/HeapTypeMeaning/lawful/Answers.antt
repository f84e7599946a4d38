use Rattle.wast_value_types.proofs.ValueLaws.{heap_type_laws}
use Rattle.wast_value_types.proofs.heap_type.HeapTypeMeaning.lawful.Goals as goal

pub returns : goal.returns
returns c = heap_type_laws
