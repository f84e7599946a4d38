use Rattle.wast_typed_operands.proofs.TypedLaws.{tag_label_laws}
use Rattle.wast_typed_operands.proofs.catch.TagLabelMeaning.lawful.Goals as goal

pub returns : goal.returns
returns c = tag_label_laws
