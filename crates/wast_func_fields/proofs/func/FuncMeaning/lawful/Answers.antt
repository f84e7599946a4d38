use Rattle.wast_field_syntax.proofs.FieldLaws.{func_laws}
use Rattle.wast_func_fields.proofs.func.FuncMeaning.lawful.Goals as goal

pub returns : goal.returns
returns c = func_laws
