use Rattle.wast_operands.proofs.OperandLaws.{handlers_laws}
use Rattle.wast_operands.proofs.resume.ResumeTableMeaning.lawful.Goals as goal

pub returns : goal.returns
returns c = handlers_laws
