use Rattle.wast_mnemonics.specs.Heads.{head}
use Rattle.wast_mnemonics.specs.Words.{entry_of}
use Rattle.wast_core_instr.specs.InstructionTree.{choose_second}
use Rattle.wast_core_instr.specs.InstructionViews.{instruction_operands}
use Rattle.wast_core_instr.specs.WordViews.{instruction_word}
use Rattle.wast_conversions.specs.Covered.{operand_forms}
use Rattle.wast_conversions.proofs.Trees.{covered_operands, covered_listed, converted, in_table}
use Rattle.wast_conversions.proofs.instructions.instruction.Goals as goal

pub with_operands-requires-clause-covered : goal.with_operands-requires-clause-covered
with_operands-requires-clause-covered c =
    let os = instruction_operands c.args.instruction.now in
    covered_operands (head (entry_of (instruction_word c.args.instruction.now)) (choose_second os)) (operand_forms os) c.requires.covered

pub with_operands-requires-clause-listed : goal.with_operands-requires-clause-listed
with_operands-requires-clause-listed c = covered_listed c.args.instruction.now c.requires.covered

pub returns-clause-same : goal.returns-clause-same
returns-clause-same c = (converted c.args.instruction.now c.with_operands.result c.with_operands.ensures.mnemonic c.with_operands.ensures.chosen c.with_operands.ensures.operands).0

pub returns-clause-aligned : goal.returns-clause-aligned
returns-clause-aligned c = (converted c.args.instruction.now c.with_operands.result c.with_operands.ensures.mnemonic c.with_operands.ensures.chosen c.with_operands.ensures.operands).1

pub returns-clause-sound : goal.returns-clause-sound
returns-clause-sound c h =
    in_table c.args.instruction.now c.with_operands.result
    (converted c.args.instruction.now c.with_operands.result c.with_operands.ensures.mnemonic c.with_operands.ensures.chosen c.with_operands.ensures.operands).0
    (c.with_operands.ensures.sound h)
