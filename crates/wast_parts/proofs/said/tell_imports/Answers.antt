use Rattle.wast_imports.specs.ImportViews.{items_tree}
use Rattle.wast_meaning.specs.Mentions.{Says, import_mentions}
use Rattle.wast_parts.proofs.Judging.{judged_as_parts}
use Rattle.wast_parts.proofs.said.tell_imports.Goals as goal

pub returns : goal.returns
returns g c =
    let j = g.J.PartJudgement in
    judged_as_parts (j.asks c.args.judge.now) j.holds j.tells Says c.tell.result (import_mentions (items_tree c.args.items.now)) c.tell.ensures
