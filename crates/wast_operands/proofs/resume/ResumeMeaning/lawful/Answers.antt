use Rattle.wast_operands.proofs.OperandLaws.{resume_laws}
use Rattle.wast_operands.proofs.resume.ResumeMeaning.lawful.Goals as goal

pub returns : goal.returns
returns c = resume_laws
