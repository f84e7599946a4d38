use Rattle.wast_customs.proofs.DylinkLaws.{dylink_group_laws}
use Rattle.wast_customs.proofs.subsection.Dylink0SubsectionMeaning.lawful.Goals as goal

pub returns : goal.returns
returns c = dylink_group_laws
