use Rattle.wast_customs.proofs.DylinkLaws.{flag_laws}
use Rattle.wast_customs.proofs.flag.FlagMeaning.lawful.Goals as goal

pub returns : goal.returns
returns c = flag_laws
