use Rattle.wast_operands.proofs.OperandLaws.{ordering_laws}
use Rattle.wast_operands.proofs.ordering.OrderingMeaning.lawful.Goals as goal

pub returns : goal.returns
returns c = ordering_laws
