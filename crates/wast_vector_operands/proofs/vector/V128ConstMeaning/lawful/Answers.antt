use Rattle.wast_vector_operands.proofs.VectorLaws.{vector_laws}
use Rattle.wast_vector_operands.proofs.vector.V128ConstMeaning.lawful.Goals as goal

pub returns : goal.returns
returns c = vector_laws
