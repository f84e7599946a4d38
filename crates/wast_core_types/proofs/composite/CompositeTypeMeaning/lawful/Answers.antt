use Rattle.wast_core_types.proofs.TypeLaws.{comp_type_laws}
use Rattle.wast_core_types.proofs.composite.CompositeTypeMeaning.lawful.Goals as goal

pub returns : goal.returns
returns c = comp_type_laws
