use Rattle.wast_core_instr.proofs.InstructionLaws.{instruction_laws}
use Rattle.wast_core_instr.proofs.parse.InstructionMeaning.lawful.Goals as goal

pub returns : goal.returns
returns c = instruction_laws
