use Rattle.wast_meant_laws.proofs.Carried as laws
use Rattle.wast_meant_laws.proofs.laws.renamings_carry.Goals as goal

pub returns : goal.returns
returns c = laws.renamings_carry
