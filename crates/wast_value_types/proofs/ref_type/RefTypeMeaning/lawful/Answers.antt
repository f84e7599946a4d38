use Rattle.wast_value_types.proofs.ValueLaws.{ref_type_laws}
use Rattle.wast_value_types.proofs.ref_type.RefTypeMeaning.lawful.Goals as goal

pub returns : goal.returns
returns c = ref_type_laws
