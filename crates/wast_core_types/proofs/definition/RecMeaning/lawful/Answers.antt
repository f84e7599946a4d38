use Rattle.wast_core_types.proofs.TypeLaws.{rec_group_laws}
use Rattle.wast_core_types.proofs.definition.RecMeaning.lawful.Goals as goal

pub returns : goal.returns
returns c = rec_group_laws
