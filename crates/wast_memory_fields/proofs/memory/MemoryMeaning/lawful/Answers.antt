use Rattle.wast_field_syntax.proofs.FieldLaws.{memory_laws}
use Rattle.wast_memory_fields.proofs.memory.MemoryMeaning.lawful.Goals as goal

pub returns : goal.returns
returns c = memory_laws
