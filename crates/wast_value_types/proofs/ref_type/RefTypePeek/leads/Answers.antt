use Rattle.wast_value_types.proofs.ValueLaws.{ref_type_leads}
use Rattle.wast_value_types.proofs.ref_type.RefTypePeek.leads.Goals as goal

pub returns : goal.returns
returns c = ref_type_leads 0
