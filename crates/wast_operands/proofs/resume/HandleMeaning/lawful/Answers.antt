use Rattle.wast_operands.proofs.OperandLaws.{handle_laws}
use Rattle.wast_operands.proofs.resume.HandleMeaning.lawful.Goals as goal

pub returns : goal.returns
returns c = handle_laws
