use Rattle.wast_mentions.proofs.Judging.{judged_as}
use Rattle.wast_parts.proofs.OfAnyKind.{tag_says}
use Rattle.wast_parts.proofs.definitions.tell_tag.Goals as goal

pub returns : goal.returns
returns g c =
    let j = g.J.PartJudgement in
    let asks = j.asks c.args.judge.now in
    judged_as asks j.holds j.tells c.tell_tag_type.result _ _ (tag_says c.args.tag.now.kind c.args.tag.now.ty) c.tell_tag_type.ensures
