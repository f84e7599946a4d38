use Rattle.wast_field_syntax.proofs.FieldLaws.{data_laws}
use Rattle.wast_memory_fields.proofs.data.DataMeaning.lawful.Goals as goal

pub returns : goal.returns
returns c = data_laws
