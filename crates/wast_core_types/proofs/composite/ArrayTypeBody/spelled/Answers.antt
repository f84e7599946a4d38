use Rattle.wast_core_types.proofs.Samples.{field_type_spelled}
use Rattle.wast_core_types.proofs.composite.ArrayTypeBody.spelled.Goals as goal

pub returns : goal.returns
returns c = field_type_spelled 0
