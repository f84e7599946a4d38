use Rattle.wast_vector_operands.proofs.VectorLaws.{shuffle_laws}
use Rattle.wast_vector_operands.proofs.vector.I8x16ShuffleMeaning.lawful.Goals as goal

pub returns : goal.returns
returns c = shuffle_laws
