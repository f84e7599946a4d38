use Rattle.wast_customs.proofs.CustomLaws.{custom_leads}
use Rattle.wast_customs.proofs.custom_syntax.CustomPeek.leads.Goals as goal

pub returns : goal.returns
returns c = custom_leads 0
