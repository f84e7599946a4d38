use Rattle.wast_operands.proofs.OperandLaws.{resume_throw_laws}
use Rattle.wast_operands.proofs.resume.ResumeThrowMeaning.lawful.Goals as goal

pub returns : goal.returns
returns c = resume_throw_laws
