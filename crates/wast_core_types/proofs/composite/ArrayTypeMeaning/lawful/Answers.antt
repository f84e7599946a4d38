use Rattle.wast_value_types.proofs.ValueLaws.{field_type_laws}
use Rattle.wast_core_types.proofs.composite.ArrayTypeMeaning.lawful.Goals as goal

pub returns : goal.returns
returns c = field_type_laws
