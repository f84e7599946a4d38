use Rattle.wast_core_types.proofs.Samples.{sub_type_spelled}
use Rattle.wast_core_types.proofs.definition.SubTypeBody.spelled.Goals as goal

pub returns : goal.returns
returns c = sub_type_spelled 0
