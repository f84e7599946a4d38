use Rattle.wast_core_types.proofs.TypeLaws.{type_def_laws}
use Rattle.wast_core_types.proofs.definition.TypeDefMeaning.lawful.Goals as goal

pub returns : goal.returns
returns c = type_def_laws
