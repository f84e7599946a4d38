use Rattle.std.proofs.lemmas.Result.{err_from_is_err_and}
use Rattle.wast_operands.specs.OperandViews.{handle_tree}
use Rattle.wast_meaning.specs.Mentions.{handle_mentions}
use Rattle.wast_mentions.proofs.Judging.{each_seen, judged_as, judged_next, judged_stops_next}
use Rattle.wast_mentions.proofs.operands.tell_resume.Goals as goal

pub returns-in_err-tell_index : goal.returns-in_err-tell_index
returns-in_err-tell_index g c =
    let j = g.J.Judgement in
    let asks = j.asks c.args.judge.now in
    let p = err_from_is_err_and c.from_residual.result c.from_residual.ensures.1 in
    rw (p.1, p.2) (judged_stops_next asks j.holds j.tells j.anywhere _ _ _ c.in_err-tell_index.ensures)

pub returns : goal.returns
returns g c =
    let j = g.J.Judgement in
    let asks = j.asks c.args.judge.now in
    let handlers = each_seen handle_mentions handle_tree c.deref.result.now c.args.table.now.handlers.items c.deref.ensures.value in
    judged_next asks j.holds j.tells c.tell_each.result _ _ c.in_ok-tell_index.ensures (judged_as asks j.holds j.tells c.tell_each.result _ _ handlers c.tell_each.ensures)
