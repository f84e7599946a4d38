use Rattle.std.proofs.Common.{sym, ◌∙◌, arith}
use Rattle.wast_binary.specs.DataCount.{is_of_data}
use Rattle.wast_binary.proofs.Left.{goes, ends, passes}
use Rattle.wast_binary.proofs.data_count.body_refers.Goals as goal

pub loop-instr-preserved : goal.loop-instr-preserved
loop-instr-preserved c =
    goes is_of_data c.args.instrs.now c.loop-instr.instr-index c.instr-item.result (omega arith) c.instr-item.is (sym c.is_of_data.ensures ∙ c.if-is_of_data.false) c.loop-instr.invariant

pub returns : goal.returns
returns c = ends is_of_data c.args.instrs.now c.loop-instr.instr-index (omega arith) c.loop-instr.invariant

pub returns-then-is_of_data : goal.returns-then-is_of_data
returns-then-is_of_data c =
    passes is_of_data c.args.instrs.now c.loop-instr.instr-index c.instr-item.result (omega arith) c.instr-item.is (sym c.is_of_data.ensures ∙ c.if-is_of_data.true) c.loop-instr.invariant
