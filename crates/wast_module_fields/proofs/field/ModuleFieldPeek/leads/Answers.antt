use Rattle.wast_module_fields.proofs.ModuleFieldLeads.{field_leads}
use Rattle.wast_module_fields.proofs.field.ModuleFieldPeek.leads.Goals as goal

pub returns : goal.returns
returns c = field_leads 0
