use Rattle.std.proofs.Common.{[], ◌∷◌, ap, sym, ◌∙◌, subst}
use Rattle.wast_core_instr.specs.ExpressionViews.{expression_tree}
use Rattle.wast_meaning.specs.Mentions.{Constant}
use Rattle.wast_mentions.proofs.Judging.{indices_seen, unmet, each_goes, each_ends, each_stops}
use Rattle.wast_parts.proofs.constants.tell_constants.Goals as goal

pub loop-expression-preserved : goal.loop-expression-preserved
loop-expression-preserved g c =
    let j = g.J.PartJudgement in
    let asks = j.asks c.args.judge.now in
    each_goes asks j.holds j.tells (λ x. Constant (expression_tree x) ∷ []) _ _ _ c.loop-expression-test.true c.expression-item.is c.in-Ok.ensures c.loop-expression.invariant

pub returns : goal.returns
returns g c =
    let j = g.J.PartJudgement in
    let asks = j.asks c.args.judge.now in
    let seen = indices_seen Constant expression_tree c.args.expressions.now in
    ap (unmet asks j.holds j.tells) (sym seen) ∙ each_ends asks j.holds j.tells (λ x. Constant (expression_tree x) ∷ []) _ _ c.loop-expression-test.false c.loop-expression.invariant

pub returns-in-Err : goal.returns-in-Err
returns-in-Err g c =
    let j = g.J.PartJudgement in
    let asks = j.asks c.args.judge.now in
    let seen = indices_seen Constant expression_tree c.args.expressions.now in
    subst (λ ps. j.tells (unmet asks j.holds j.tells ps) c.in-Err.fault) seen
    (each_stops asks j.holds j.tells (λ x. Constant (expression_tree x) ∷ []) j.anywhere _ _ _ _ c.loop-expression-test.true c.expression-item.is c.in-Err.ensures c.loop-expression.invariant)
