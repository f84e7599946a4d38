use Rattle.wast_core.proofs.ModuleLaws.{module_form_laws}
use Rattle.wast_core.proofs.module.ModuleMeaning.lawful.Goals as goal

pub returns : goal.returns
returns c = module_form_laws
