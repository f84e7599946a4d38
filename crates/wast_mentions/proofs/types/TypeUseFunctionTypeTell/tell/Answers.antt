use Rattle.std.proofs.Common.{sym, append-nil}
use Rattle.std.proofs.lemmas.Result.{err_from_is_err_and}
use Rattle.wast_mentions.proofs.Judging.{judged_as, judged_then, judged_stops}
use Rattle.wast_mentions.proofs.types.TypeUseFunctionTypeTell.tell.Goals as goal

pub returns-in_err-tell_index_if : goal.returns-in_err-tell_index_if
returns-in_err-tell_index_if g c =
    let j = g.J.Judgement in
    let asks = j.asks c.args.judge.now in
    let p = err_from_is_err_and c.from_residual.result c.from_residual.ensures.1 in
    rw (p.1, p.2) (judged_stops asks j.holds j.tells j.anywhere _ _ _ c.in_err-tell_index_if.ensures)

pub returns-in-Some : goal.returns-in-Some
returns-in-Some g c =
    let j = g.J.Judgement in
    let asks = j.asks c.args.judge.now in
    rw (c.in-Some.is) (judged_then asks j.holds j.tells c.tell.result _ _ c.in_ok-tell_index_if.ensures (judged_as asks j.holds j.tells c.tell.result _ _ (sym (append-nil _)) c.tell.ensures))
