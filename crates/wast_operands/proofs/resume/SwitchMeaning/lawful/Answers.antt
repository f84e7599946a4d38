use Rattle.wast_operands.proofs.OperandLaws.{two_indices_laws}
use Rattle.wast_operands.proofs.resume.SwitchMeaning.lawful.Goals as goal

pub returns : goal.returns
returns c = two_indices_laws
