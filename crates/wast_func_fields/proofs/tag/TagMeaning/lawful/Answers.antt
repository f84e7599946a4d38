use Rattle.wast_field_syntax.proofs.FieldLaws.{tag_laws}
use Rattle.wast_func_fields.proofs.tag.TagMeaning.lawful.Goals as goal

pub returns : goal.returns
returns c = tag_laws
