use Rattle.wast_grammar.proofs.LeadLaws.{open_leads}
use Rattle.wast_parser_core.proofs.paren.LParenPeek.leads.Goals as goal

pub returns : goal.returns
returns c = open_leads
