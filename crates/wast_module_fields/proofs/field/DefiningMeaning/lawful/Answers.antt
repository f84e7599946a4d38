use Rattle.wast_module_fields.proofs.ModuleFieldLaws.{defining_laws}
use Rattle.wast_module_fields.proofs.field.DefiningMeaning.lawful.Goals as goal

pub returns : goal.returns
returns c = defining_laws
