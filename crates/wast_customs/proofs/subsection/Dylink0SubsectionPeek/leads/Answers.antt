use Rattle.wast_customs.proofs.DylinkLaws.{dylink_group_leads}
use Rattle.wast_customs.proofs.subsection.Dylink0SubsectionPeek.leads.Goals as goal

pub returns : goal.returns
returns c = dylink_group_leads 0
