use Rattle.std.proofs.Common.{◌≡◌, subst}
use Rattle.std.specs.Prelude.{OnOk}
use Rattle.wast_grammar.specs.Tokens.{Name}
use Rattle.wast_names.specs.Space as names
use Rattle.wast_core_instr.specs.ExpressionViews.{expression_tree}
use Rattle.wast_numbered.specs.Place.{by_place}
use Rattle.wast_changed.specs.Rewritten.{expr_changed}
use Rattle.wast_numbered.proofs.numbering.NumberingRewriting.constant.Goals as goal

pub returns-clause-changed : goal.returns-clause-changed
returns-clause-changed c =
    subst (λ (locals : names.Space Name). OnOk c.number_expression.result (expression_tree c.number_expression.new.expression ≡ expr_changed (by_place c.args.self.now.spaces.now locals) (expression_tree c.args.expression.now)))
    c.space.ensures c.number_expression.ensures.changed
