use Rattle.wast_core_instr.specs.ExpressionViews.{expression_tree}
use Rattle.wast_meaning.specs.Mentions.{expr_mentions}
use Rattle.wast_implied.specs.Known.{after_mentions}
use Rattle.wast_implied.specs.Views.{known}
use Rattle.wast_implied.proofs.Steps.{step, finish}
use Rattle.wast_implied.proofs.gathered.Implied.add_expressions.Goals as goal

pub loop-expression-preserved : goal.loop-expression-preserved
loop-expression-preserved c =
    step (λ k x. after_mentions c.args.span k (expr_mentions (expression_tree x))) (known c.args.self.now) (known c.loop-expression.self) (known c.add_expression.new.self) c.args.expressions.now c.loop-expression.expression-index c.expression-item.result
    c.loop-expression-test.true c.expression-item.is c.loop-expression.invariant c.in_ok-add_expression.ensures

pub returns : goal.returns
returns c = finish expression_tree expr_mentions c.args.span (known c.args.self.now) (known c.loop-expression.self) c.args.expressions.now c.loop-expression.expression-index c.loop-expression-test.false c.loop-expression.invariant
