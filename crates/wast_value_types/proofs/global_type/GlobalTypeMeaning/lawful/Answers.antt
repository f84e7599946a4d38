use Rattle.wast_value_types.proofs.ValueLaws.{global_type_laws}
use Rattle.wast_value_types.proofs.global_type.GlobalTypeMeaning.lawful.Goals as goal

pub returns : goal.returns
returns c = global_type_laws
