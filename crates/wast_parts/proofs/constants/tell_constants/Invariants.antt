use Rattle.std.proofs.Common.{[], ◌∷◌}
use Rattle.wast_core_instr.specs.ExpressionViews.{expression_tree}
use Rattle.wast_meaning.specs.Mentions.{Constant}
use Rattle.wast_mentions.proofs.Judging.{Left}
use Rattle.wast_parts.proofs.constants.tell_constants.Given as goal

abbrev pub invariant-loop-expression : goal.invariant-loop-expression
invariant-loop-expression g l = let j = g.J.PartJudgement in Left (j.asks l.fn.judge) j.holds j.tells (λ x. Constant (expression_tree x) ∷ []) l.expressions l.expression-index
