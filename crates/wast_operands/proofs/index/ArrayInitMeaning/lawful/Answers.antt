use Rattle.wast_operands.proofs.OperandLaws.{two_indices_laws}
use Rattle.wast_operands.proofs.index.ArrayInitMeaning.lawful.Goals as goal

pub returns : goal.returns
returns c = two_indices_laws
