use Rattle.wast_value_types.proofs.ValueLaws.{val_type_leads}
use Rattle.wast_value_types.proofs.val_type.ValTypePeek.leads.Goals as goal

pub returns : goal.returns
returns c = val_type_leads 0
