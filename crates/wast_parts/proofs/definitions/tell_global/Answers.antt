use Rattle.std.proofs.Common.{[], ◌∷◌}
use Rattle.wast_value_types.specs.ValueViews.{val_tree}
use Rattle.wast_core_instr.specs.ExpressionViews.{expression_tree}
use Rattle.wast_meaning.specs.Mentions.{Constant, says, val_mentions}
use Rattle.std.proofs.lemmas.Result.{err_from_is_err_and}
use Rattle.wast_mentions.proofs.Judging.{judged_then, judged_stops}
use Rattle.wast_parts.proofs.definitions.tell_global.Goals as goal

pub returns-in_err-tell_val_type-in-Inline : goal.returns-in_err-tell_val_type-in-Inline
returns-in_err-tell_val_type-in-Inline g c =
    let j = g.J.PartJudgement in
    let asks = j.asks c.args.judge.now in
    let ps = says (val_mentions (val_tree c.args.global.now.ty.ty)) in
    let qs = Constant (expression_tree c.in-Inline.init) ∷ [] in
    let p = err_from_is_err_and c.from_residual.result c.from_residual.ensures.1 in
    rw (c.in-Inline.is, p.1, p.2) (judged_stops asks j.holds j.tells j.anywhere _ ps qs c.in_err-tell_val_type-in-Inline.ensures)

pub returns-in_ok-tell_val_type-in-Inline : goal.returns-in_ok-tell_val_type-in-Inline
returns-in_ok-tell_val_type-in-Inline g c =
    let j = g.J.PartJudgement in
    let asks = j.asks c.args.judge.now in
    let ps = says (val_mentions (val_tree c.args.global.now.ty.ty)) in
    let qs = Constant (expression_tree c.in-Inline.init) ∷ [] in
    rw (c.in-Inline.is) (judged_then asks j.holds j.tells c.judge_constant.result ps qs c.in_ok-tell_val_type-in-Inline.ensures c.judge_constant.ensures)
