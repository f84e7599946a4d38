use Rattle.wast_grammar.proofs.LeadLaws.{close_leads}
use Rattle.wast_parser_core.proofs.paren.RParenPeek.leads.Goals as goal

pub returns : goal.returns
returns c = close_leads
