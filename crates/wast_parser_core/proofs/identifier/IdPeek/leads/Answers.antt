use Rattle.std.proofs.Common.{[]}
use Rattle.wast_grammar.specs.Tokens.{as_read}
use Rattle.wast_parser_core.proofs.IdentifierLaws.{identifier_leads}
use Rattle.wast_parser_core.proofs.identifier.IdPeek.leads.Goals as goal

pub returns : goal.returns
returns c = identifier_leads (as_read [])
