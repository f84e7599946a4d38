use Rattle.wast_vector_operands.proofs.VectorLaws.{lane_laws}
use Rattle.wast_vector_operands.proofs.vector.LaneArgMeaning.lawful.Goals as goal

pub returns : goal.returns
returns c = lane_laws
