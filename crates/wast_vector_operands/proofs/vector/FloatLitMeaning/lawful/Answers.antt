use Rattle.wast_vector_operands.proofs.VectorLaws.{float_literal_laws}
use Rattle.wast_vector_operands.proofs.vector.FloatLitMeaning.lawful.Goals as goal

pub returns : goal.returns
returns c = float_literal_laws
