use Rattle.std.proofs.Common.{[], ◌∷◌, sym}
use Rattle.std.specs.List.{flat_map}
use Rattle.wast_core_instr.specs.ExpressionViews.{expression_tree}
use Rattle.wast_meaning.specs.Mentions.{Constant, expr_mentions, part_mentions}
use Rattle.wast_implied.specs.Views.{known}
use Rattle.wast_implied.proofs.Quiet.{used_constant}
use Rattle.wast_implied.proofs.Retold.{retold}
use Rattle.wast_implied.proofs.gathered.Implied.add_if.Goals as goal

pub returns-in-Some : goal.returns-in-Some
returns-in-Some c =
    let e = expression_tree c.in-Some.expression in
    rw (c.in-Some.is) (retold c.add_expression.result c.args.span (known c.args.self.now) (known c.add_expression.new.self) (expr_mentions e) (flat_map part_mentions (Constant e ∷ [])) (sym (used_constant e)) c.add_expression.ensures)
