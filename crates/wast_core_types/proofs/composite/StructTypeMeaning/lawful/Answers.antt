use Rattle.wast_core_types.proofs.TypeLaws.{struct_type_laws}
use Rattle.wast_core_types.proofs.composite.StructTypeMeaning.lawful.Goals as goal

pub returns : goal.returns
returns c = struct_type_laws
