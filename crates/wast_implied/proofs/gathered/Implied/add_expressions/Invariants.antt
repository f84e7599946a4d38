use Rattle.std.proofs.Common.{◌≡◌, take}
use Rattle.wast_core_instr.specs.ExpressionViews.{expression_tree}
use Rattle.wast_meaning.specs.Mentions.{expr_mentions}
use Rattle.wast_names.specs.Walk.{reached}
use Rattle.wast_implied.specs.Known.{after_mentions}
use Rattle.wast_implied.specs.Views.{known}
use Rattle.wast_implied.proofs.gathered.Implied.add_expressions.Given as goal

abbrev pub invariant-loop-expression : goal.invariant-loop-expression
invariant-loop-expression l = known l.self ≡ reached (λ k x. after_mentions l.fn.span k (expr_mentions (expression_tree x))) (known l.fn.self) (take l.expression-index l.expressions)
