use Rattle.wast_customs.proofs.CustomLaws.{dylink_laws}
use Rattle.wast_customs.proofs.dylink_syntax.Dylink0Meaning.lawful.Goals as goal

pub returns : goal.returns
returns c = dylink_laws
