use Rattle.wast_field_syntax.proofs.FieldLaws.{global_laws}
use Rattle.wast_func_fields.proofs.global.GlobalMeaning.lawful.Goals as goal

pub returns : goal.returns
returns c = global_laws
