use Rattle.wast_field_syntax.proofs.FieldLaws.{all_locals_laws}
use Rattle.wast_func_fields.proofs.laws.locals.Goals as goal

pub returns : goal.returns
returns c = all_locals_laws
