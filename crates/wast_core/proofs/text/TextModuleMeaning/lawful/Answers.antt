use Rattle.wast_core.proofs.ModuleLaws.{wat_laws}
use Rattle.wast_core.proofs.text.TextModuleMeaning.lawful.Goals as goal

pub returns : goal.returns
returns c = wat_laws
