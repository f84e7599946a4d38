use Rattle.wast_imports.specs.ImportViews.{member_tree}
use Rattle.wast_meaning.specs.Mentions.{extern_mentions}
use Rattle.wast_mentions.proofs.Judging.{each_seen, judged_as}
use Rattle.wast_mentions.proofs.imports.ImportItemsTell.tell.Goals as goal

pub returns-in-Group1 : goal.returns-in-Group1
returns-in-Group1 g c =
    let j = g.J.Judgement in
    let asks = j.asks c.args.judge.now in
    let items = each_seen (λ i. extern_mentions i.1.extern_type) member_tree c.deref.result.now c.in-Group1.items.items c.deref.ensures.value in
    rw (c.in-Group1.is) (judged_as asks j.holds j.tells c.tell_each.result _ _ items c.tell_each.ensures)
