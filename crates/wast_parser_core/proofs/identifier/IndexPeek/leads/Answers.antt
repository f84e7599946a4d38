use Rattle.std.proofs.Common.{[]}
use Rattle.wast_grammar.specs.Tokens.{as_read}
use Rattle.wast_parser_core.proofs.IdentifierLaws.{index_leads}
use Rattle.wast_parser_core.proofs.identifier.IndexPeek.leads.Goals as goal

pub returns : goal.returns
returns c = index_leads (as_read [])
