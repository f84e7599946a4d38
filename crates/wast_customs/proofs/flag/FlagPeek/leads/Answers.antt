use Rattle.wast_customs.proofs.DylinkLaws.{flag_leads}
use Rattle.wast_customs.proofs.flag.FlagPeek.leads.Goals as goal

pub returns : goal.returns
returns c = flag_leads
