-- What the table says of the operands of constants.
use Rattle.std.proofs.Common.{◌≡◌, refl, sym, subst}
use Rattle.std.specs.Prelude.{ℤ, pos, negsuc, ◌≤ℤ◌}
use Rattle.wasm_encoder_base.specs.Instr.{in_range}
use Rattle.wasm_encoder_base.specs.Leb.{uleb, leb, digits}
use Rattle.wasm_encoder_base.specs.OperandSyntax.{OperandSyntax}
use Rattle.wasm_encoder_base.specs.OperandSyntax as syntax
use Rattle.wasm_encoder_base.specs.Table.{table}
use Rattle.wast_core_instr.specs.InstructionViews.{instruction_operands}
use Rattle.wast_core_instr.specs.WordViews.{instruction_word}
use Rattle.wast_core_instr.specs.declared.instruction.Instruction as tree
use Rattle.wast_core_instr.specs.declared.instruction.Instruction.TheVariants as instructions
use Rattle.wast_mnemonics.specs.declared.word.Word.TheVariants as words
use Rattle.wast_conversions.specs.Operands.{integer_meant, operands_meant}
use Rattle.wast_conversions.specs.Rows.{row_of}

pub i32_row : row_of words.I32Const ≡ syntax.I32
unfolding row_of table uleb leb digits
i32_row = refl

pub i64_row : row_of words.I64Const ≡ syntax.I64
unfolding row_of table uleb leb digits
i64_row = refl

-- and so a constant of 64 bits is in range, as one of 32 is by either row
pub i64_in_range : (i : tree.Instruction) (z : ℤ) → i ≡ instructions.I64Const z → negsuc 9223372036854775807 ≤ℤ z → z ≤ℤ pos 9223372036854775807
    → in_range (operands_meant (row_of (instruction_word i)) (instruction_operands i))
i64_in_range i z e low high =
    let P : OperandSyntax → Type 0 = λ o. in_range (integer_meant o z) in
    let Q : tree.Instruction → Type 0 = λ j. in_range (operands_meant (row_of (instruction_word j)) (instruction_operands j)) in
    subst Q (sym e) (subst P (sym i64_row) (low, high))
