use Rattle.std.proofs.Common.{◌≡◌, [], ◌∷◌, None, subst}
use Rattle.std.proofs.lemmas.Result.{err_from_is_err_and}
use Rattle.wast_typed_operands.specs.TypedViews.{block_tree, catch_tree}
use Rattle.wast_meaning.specs.Mentions.{UsesInBlock, catch_mentions}
use Rattle.wast_mentions.proofs.Judging.{each_seen, unmet, judged_as, judged_next, judged_stops_next}
use Rattle.wast_mentions.proofs.operands.TryTableTell.tell.Goals as goal

pub returns-in_err-tell : goal.returns-in_err-tell
returns-in_err-tell g c =
    let j = g.J.Judgement in
    let asks = j.asks c.args.judge.now in
    let p = err_from_is_err_and c.from_residual.result c.from_residual.ensures.1 in
    rw (p.1, p.2) (judged_stops_next asks j.holds j.tells j.anywhere _ _ _ (subst (λ b. j.tells (unmet asks j.holds j.tells (UsesInBlock (block_tree b).type_use ∷ [])) c.in_err-tell.field-0.0) c.deref.ensures c.in_err-tell.ensures))

pub returns : goal.returns
returns g c =
    let j = g.J.Judgement in
    let asks = j.asks c.args.judge.now in
    let catches = each_seen catch_mentions catch_tree c.deref-2.result.now c.args.self.now.catches.items c.deref-2.ensures.value in
    judged_next asks j.holds j.tells c.tell_each.result _ _ (subst (λ b. unmet asks j.holds j.tells (UsesInBlock (block_tree b).type_use ∷ []) ≡ None) c.deref.ensures c.in_ok-tell.ensures) (judged_as asks j.holds j.tells c.tell_each.result _ _ catches c.tell_each.ensures)
