use Rattle.wast_parser_core.proofs.IdentifierLaws.{maybe_name_laws}
use Rattle.wast_parser_core.proofs.name_annotation.OptionNameAnnotationMeaning.lawful.Goals as goal

pub returns : goal.returns
returns c = maybe_name_laws
