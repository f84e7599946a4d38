use Rattle.wast_grammar.proofs.LeadLaws.{word_leads}
use Rattle.wast_parser_core.proofs.keyword.KeywordPeek.leads.Goals as goal

pub returns : goal.returns
returns g c = word_leads g.N.KeywordName.word
