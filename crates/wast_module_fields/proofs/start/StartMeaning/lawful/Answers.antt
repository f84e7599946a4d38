use Rattle.wast_module_fields.proofs.ModuleFieldLaws.{start_laws}
use Rattle.wast_module_fields.proofs.start.StartMeaning.lawful.Goals as goal

pub returns : goal.returns
returns c = start_laws
