-- Which instructions have a type use behind them.
use Rattle.std.specs.Prelude.{Bool, true, false}
use Rattle.wast_core_instr.specs.declared.instruction.Instruction.{Instruction}
use Rattle.wast_core_instr.specs.declared.instruction.Instruction.TheVariants as instructions

-- whether a type use stands behind the word: a block or an indirect call
abbrev pub has_type_use : Instruction → Bool
has_type_use (instructions.Block block_type) = true
has_type_use (instructions.Loop block_type) = true
has_type_use (instructions.If block_type) = true
has_type_use (instructions.Try block_type) = true
has_type_use (instructions.TryTable try_table) = true
has_type_use (instructions.CallIndirect call) = true
has_type_use (instructions.ReturnCallIndirect call) = true
has_type_use _ = false
