use Rattle.wast_value_types.proofs.ValueLaws.{shared_global_laws}
use Rattle.wast_value_types.proofs.global_type.SharedBodyMeaning.lawful.Goals as goal

pub returns : goal.returns
returns c = shared_global_laws
