use Rattle.wast_parser_core.proofs.IntegerLaws.{name_leads}
use Rattle.wast_parser_core.proofs.text.CowStrGlobalPeek.leads.Goals as goal

pub returns : goal.returns
returns c = name_leads
