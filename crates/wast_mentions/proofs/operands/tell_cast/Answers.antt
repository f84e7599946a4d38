use Rattle.std.proofs.lemmas.Result.{err_from_is_err_and}
use Rattle.wast_mentions.proofs.Judging.{told_next, judged_next, judged_then, judged_stops, judged_stops_next}
use Rattle.wast_mentions.proofs.operands.tell_cast.Goals as goal

pub returns-in_err-tell_index : goal.returns-in_err-tell_index
returns-in_err-tell_index g c =
    let j = g.J.Judgement in
    let asks = j.asks c.args.judge.now in
    let p = err_from_is_err_and c.from_residual.result c.from_residual.ensures.1 in
    rw (p.1, p.2) (judged_stops_next asks j.holds j.tells j.anywhere _ _ _ c.in_err-tell_index.ensures)

pub returns-in_err-tell : goal.returns-in_err-tell
returns-in_err-tell g c =
    let j = g.J.Judgement in
    let asks = j.asks c.args.judge.now in
    let p = err_from_is_err_and c.from_residual-in_err-tell.result c.from_residual-in_err-tell.ensures.1 in
    rw (p.1, p.2) (told_next asks j.holds j.tells _ _ _ c.in_ok-tell_index.ensures (judged_stops asks j.holds j.tells j.anywhere _ _ _ c.in_err-tell.ensures))

pub returns : goal.returns
returns g c =
    let j = g.J.Judgement in
    let asks = j.asks c.args.judge.now in
    judged_next asks j.holds j.tells c.tell-2.result _ _ c.in_ok-tell_index.ensures (judged_then asks j.holds j.tells c.tell-2.result _ _ c.in_ok-tell.ensures c.tell-2.ensures)
