use Rattle.std.proofs.Common.{sym, ◌∙◌, append-nil}
use Rattle.wast_value_types.specs.ValueViews.{val_tree}
use Rattle.wast_meaning.specs.Mentions.{val_mentions}
use Rattle.wast_mentions.proofs.Judging.{each_seen, judged_as}
use Rattle.wast_mentions.proofs.operands.SelectTypesTell.tell.Goals as goal

pub returns-in-Some : goal.returns-in-Some
returns-in-Some g c =
    let j = g.J.Judgement in
    let asks = j.asks c.args.judge.now in
    let types = each_seen val_mentions val_tree c.deref.result.now c.in-Some.types.items c.deref.ensures.value in
    rw (c.in-Some.is) (judged_as asks j.holds j.tells c.tell_each.result _ _ (types ∙ sym (append-nil _)) c.tell_each.ensures)
