use Rattle.wast_customs.proofs.CustomLaws.{dylink_leads}
use Rattle.wast_customs.proofs.dylink_syntax.Dylink0Peek.leads.Goals as goal

pub returns : goal.returns
returns c = dylink_leads
