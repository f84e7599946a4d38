use Rattle.wast_scopes.proofs.Module.{module_is}
use Rattle.wast_scopes.proofs.laws.module.Goals as goal

pub returns : goal.returns
returns c = module_is
