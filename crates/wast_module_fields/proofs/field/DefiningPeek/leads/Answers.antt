use Rattle.wast_module_fields.proofs.ModuleFieldLeads.{defining_leads}
use Rattle.wast_module_fields.proofs.field.DefiningPeek.leads.Goals as goal

pub returns : goal.returns
returns c = defining_leads 0
