-- What private contracts say of instructions: what is told of one.
use Rattle.std.specs.Prelude.{Option, Some, option_map}
use Rattle.wast_mnemonics.specs.Mnemonics.{word_mnemonic}
use Rattle.wast_core_instr.specs.InstructionViews.{instruction_operands}
use Rattle.wast_core_instr.specs.WordViews.{instruction_word, proposal_word}
use Rattle.wast_core_instr.specs.declared.instruction.Instruction.{Instruction}
use Rattle.wast_core_instr.specs.declared.instruction.Instruction.TheVariants as instructions
use Rattle.wast_conversions.specs.Covered.{Form, operand_forms}
use Rattle.wast_uncovered.specs.First.{first}

-- its mnemonic, where its operands have a form or it is an instruction of a proposal
abbrev pub told : Instruction → Option Form
told (instructions.Proposal op) = Some (word_mnemonic (proposal_word op.value))
told i = option_map (λ form. word_mnemonic (instruction_word i)) (first (operand_forms (instruction_operands i)))
