use Rattle.wast_value_types.proofs.ValueLaws.{field_type_leads}
use Rattle.wast_value_types.proofs.storage_type.FieldTypePeek.leads.Goals as goal

pub returns : goal.returns
returns c = field_type_leads 0
