use Rattle.wast_binary.specs.DataCount.{is_of_data}
use Rattle.wast_binary.proofs.Left.{Left}
use Rattle.wast_binary.proofs.data_count.body_refers.Given as goal

abbrev pub invariant-loop-instr : goal.invariant-loop-instr
invariant-loop-instr l = Left is_of_data l.instrs l.instr-index
