use Rattle.wast_value_types.proofs.ValueLaws.{ref_body_laws}
use Rattle.wast_value_types.proofs.ref_type.RefBodyMeaning.lawful.Goals as goal

pub returns : goal.returns
returns c = ref_body_laws
