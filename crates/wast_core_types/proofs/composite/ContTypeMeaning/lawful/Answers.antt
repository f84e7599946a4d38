use Rattle.wast_parser.proofs.IdentifierLaws.{index_laws}
use Rattle.wast_core_types.proofs.composite.ContTypeMeaning.lawful.Goals as goal

pub returns : goal.returns
returns c = index_laws
