use Rattle.wast_module_fields.proofs.ModuleFieldLaws.{field_laws}
use Rattle.wast_module_fields.proofs.field.ModuleFieldMeaning.lawful.Goals as goal

pub returns : goal.returns
returns c = field_laws
