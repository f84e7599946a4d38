use Rattle.wast_data.proofs.DataLaws.{value_leads}
use Rattle.wast_data.proofs.syntax.DataValPeek.leads.Goals as goal

pub returns : goal.returns
returns c = value_leads
