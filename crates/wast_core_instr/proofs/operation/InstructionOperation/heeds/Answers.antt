use Rattle.wast_core_instr.proofs.GroupLaws.{instruction_heeds}
use Rattle.wast_core_instr.proofs.operation.InstructionOperation.heeds.Goals as goal

pub returns : goal.returns
returns c = instruction_heeds
