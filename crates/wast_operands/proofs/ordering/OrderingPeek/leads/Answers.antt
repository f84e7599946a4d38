use Rattle.wast_operands.proofs.OperandLaws.{ordering_leads}
use Rattle.wast_operands.proofs.ordering.OrderingPeek.leads.Goals as goal

pub returns : goal.returns
returns c = ordering_leads
