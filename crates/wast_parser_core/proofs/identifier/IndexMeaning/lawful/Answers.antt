use Rattle.wast_parser_core.proofs.IdentifierLaws.{index_laws}
use Rattle.wast_parser_core.proofs.identifier.IndexMeaning.lawful.Goals as goal

pub returns : goal.returns
returns c = index_laws
