use Rattle.wast_customs.proofs.DylinkLaws.{extent_leads}
use Rattle.wast_customs.proofs.subsection.ExtentPeek.leads.Goals as goal

pub returns : goal.returns
returns g c = extent_leads g.N.KeywordName.word 0
