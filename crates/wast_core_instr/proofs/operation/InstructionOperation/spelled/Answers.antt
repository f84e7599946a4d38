use Rattle.wast_core_instr.proofs.GroupLaws.{instruction_spelled}
use Rattle.wast_core_instr.proofs.operation.InstructionOperation.spelled.Goals as goal

pub returns : goal.returns
returns c = instruction_spelled _ _ c.every_word.ensures
