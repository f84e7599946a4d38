use Rattle.wast_expressions.proofs.Peeks.{hint_leads}
use Rattle.wast_expressions.proofs.hint.HintValuePeek.leads.Goals as goal

pub returns : goal.returns
returns c = hint_leads 0
