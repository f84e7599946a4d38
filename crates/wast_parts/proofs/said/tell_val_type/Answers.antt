use Rattle.wast_value_types.specs.ValueViews.{val_tree}
use Rattle.wast_meaning.specs.Mentions.{Says, val_mentions}
use Rattle.wast_parts.proofs.Judging.{judged_as_parts}
use Rattle.wast_parts.proofs.said.tell_val_type.Goals as goal

pub returns : goal.returns
returns g c =
    let j = g.J.PartJudgement in
    judged_as_parts (j.asks c.args.judge.now) j.holds j.tells Says c.tell.result (val_mentions (val_tree c.args.ty.now)) c.tell.ensures
