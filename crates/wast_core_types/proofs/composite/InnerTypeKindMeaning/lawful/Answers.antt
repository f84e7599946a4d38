use Rattle.wast_core_types.proofs.TypeLaws.{inner_type_laws}
use Rattle.wast_core_types.proofs.composite.InnerTypeKindMeaning.lawful.Goals as goal

pub returns : goal.returns
returns c = inner_type_laws
