use Rattle.wast_core_types.proofs.Samples.{struct_type_spelled}
use Rattle.wast_core_types.proofs.composite.StructTypeBody.spelled.Goals as goal

pub returns : goal.returns
returns c = struct_type_spelled
