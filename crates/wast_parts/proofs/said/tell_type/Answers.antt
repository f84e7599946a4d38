use Rattle.wast_core_types.specs.TypeViews.{item_tree}
use Rattle.wast_meaning.specs.Mentions.{Says, type_mentions}
use Rattle.wast_parts.proofs.Judging.{judged_as_parts}
use Rattle.wast_parts.proofs.said.tell_type.Goals as goal

pub returns : goal.returns
returns g c =
    let j = g.J.PartJudgement in
    judged_as_parts (j.asks c.args.judge.now) j.holds j.tells Says c.tell.result (type_mentions (item_tree c.args.item.now)) c.tell.ensures
