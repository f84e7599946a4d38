use Rattle.std.proofs.Common.{◌≡◌, ℕ, true, false, [], ◌∷◌, None, ◌∙◌}
use Rattle.std.specs.Prelude.{pos}
use Rattle.std.proofs.lemmas.Result.{IfOk-weaker}
use Rattle.wast_grammar.specs.Tokens.{Name}
use Rattle.wast_expressions.specs.Items.{expression_of}
use Rattle.wast_core_instr.specs.InstructionViews.{instruction_tree}
use Rattle.wast_core_instr.specs.ExpressionViews.{expression_tree}
use Rattle.wast_core_instr.specs.declared.instruction.Instruction.TheVariants as instructions
use Rattle.wast_meaning.specs.Written.{zero_offset}
use Rattle.wast_deinline.proofs.Offsets.{narrow, wide}
use Rattle.wast_deinline.proofs.split.zero_offset.Goals as goal

pub returns-then-is_64 : goal.returns-then-is_64
returns-then-is_64 c =
    rw c.if-is_64.true
    (IfOk-weaker c.one.result (λ e. expression_tree e ≡ expression_of ((None, instruction_tree (instructions.I64Const (pos 0))) ∷ []))
    (λ e. expression_tree e ≡ zero_offset {N = Name} {P = ℕ} true) (λ e h. h ∙ wide) c.one.ensures.tree)

pub returns-else-is_64 : goal.returns-else-is_64
returns-else-is_64 c =
    rw c.if-is_64.false
    (IfOk-weaker c.one-else-is_64.result (λ e. expression_tree e ≡ expression_of ((None, instruction_tree (instructions.I32Const (pos 0))) ∷ []))
    (λ e. expression_tree e ≡ zero_offset {N = Name} {P = ℕ} false) (λ e h. h ∙ narrow) c.one-else-is_64.ensures.tree)
