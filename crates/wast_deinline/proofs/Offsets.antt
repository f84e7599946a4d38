-- The address 0, as an expression.
use Rattle.std.proofs.Common.{◌≡◌, ℕ, true, false, [], ◌∷◌, None, refl}
use Rattle.std.specs.Prelude.{pos}
use Rattle.wasm_encoder_base.specs.Table.{table}
use Rattle.wasm_encoder_base.specs.Leb.{uleb, leb, digits}
use Rattle.wast_grammar.specs.Tokens.{Name}
use Rattle.wast_expressions.specs.Items.{expression_of}
use Rattle.wast_core_instr.specs.InstructionViews.{instruction_tree}
use Rattle.wast_core_instr.specs.declared.instruction.Instruction.TheVariants as instructions
use Rattle.wast_meaning.specs.Written.{zero_offset}

pub narrow : expression_of ((None, instruction_tree (instructions.I32Const (pos 0))) ∷ []) ≡ zero_offset {N = Name} {P = ℕ} false
unfolding table uleb leb digits
narrow = refl

pub wide : expression_of ((None, instruction_tree (instructions.I64Const (pos 0))) ∷ []) ≡ zero_offset {N = Name} {P = ℕ} true
unfolding table uleb leb digits
wide = refl
