use Rattle.wast_core_types.proofs.TypeLaws.{sub_type_laws}
use Rattle.wast_core_types.proofs.definition.SubTypeMeaning.lawful.Goals as goal

pub returns : goal.returns
returns c = sub_type_laws
