use Rattle.wast_core_types.proofs.TypeLaws.{type_body_laws}
use Rattle.wast_core_types.proofs.definition.TypeBodyMeaning.lawful.Goals as goal

pub returns : goal.returns
returns c = type_body_laws
