use Rattle.wast_parser_core.proofs.IdentifierLaws.{name_annotation_laws}
use Rattle.wast_parser_core.proofs.name_annotation.NameAnnotationMeaning.lawful.Goals as goal

pub returns : goal.returns
returns c = name_annotation_laws
