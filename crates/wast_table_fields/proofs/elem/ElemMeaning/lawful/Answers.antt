use Rattle.wast_field_syntax.proofs.FieldLaws.{elem_laws}
use Rattle.wast_table_fields.proofs.elem.ElemMeaning.lawful.Goals as goal

pub returns : goal.returns
returns c = elem_laws
