use Rattle.wast_parser_core.proofs.IdentifierLaws.{identifier_laws}
use Rattle.wast_parser_core.proofs.identifier.IdMeaning.lawful.Goals as goal

pub returns : goal.returns
returns c = identifier_laws
