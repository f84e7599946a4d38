use Rattle.wast_vector_operands.proofs.VectorLaws.{float_leads}
use Rattle.wast_vector_operands.proofs.vector.FloatLitPeek.leads.Goals as goal

pub returns : goal.returns
returns c = float_leads
