use Rattle.wast_vector_operands.proofs.VectorLaws.{vector_leads}
use Rattle.wast_vector_operands.proofs.vector.V128ConstPeek.leads.Goals as goal

pub returns : goal.returns
returns c = vector_leads 0
