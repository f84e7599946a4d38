use Rattle.wast_parser_core.proofs.IntegerLaws.{bytes_leads}
use Rattle.wast_parser_core.proofs.text.BytesPeek.leads.Goals as goal

pub returns : goal.returns
returns c = bytes_leads
