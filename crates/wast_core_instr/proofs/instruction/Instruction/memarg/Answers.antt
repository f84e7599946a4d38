use Rattle.wast_core_instr.proofs.MemArgs.{other_memarg}
use Rattle.wast_core_instr.proofs.instruction.Instruction.memarg.Goals as goal

pub returns-in_default : goal.returns-in_default
returns-in_default c = other_memarg c.args.self.now c.in_default.not-Access c.in_default.not-Atomic c.in_default.not-AtomicRmw c.in_default.not-VectorArg
