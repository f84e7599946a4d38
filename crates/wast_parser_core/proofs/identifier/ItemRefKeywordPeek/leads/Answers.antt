use Rattle.std.proofs.Common.{[]}
use Rattle.wast_grammar.specs.Tokens.{as_read}
use Rattle.wast_parser_core.proofs.IdentifierLaws.{item_ref_leads}
use Rattle.wast_parser_core.proofs.identifier.ItemRefKeywordPeek.leads.Goals as goal

pub returns : goal.returns
returns g c = item_ref_leads g.N.KeywordName.word (as_read []) 0
