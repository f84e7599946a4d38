use Rattle.wast_core_instr.proofs.InstructionLaws.{instruction_but}
use Rattle.wast_core_instr.proofs.operation.InstructionOperation.lawful.Goals as goal

pub returns : goal.returns
returns c = instruction_but
