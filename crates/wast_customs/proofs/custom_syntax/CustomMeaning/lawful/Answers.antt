use Rattle.wast_customs.proofs.CustomLaws.{custom_laws}
use Rattle.wast_customs.proofs.custom_syntax.CustomMeaning.lawful.Goals as goal

pub returns : goal.returns
returns c = custom_laws
