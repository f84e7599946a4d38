use Rattle.std.proofs.Common.{List, map, subst, ap, sym}
use Rattle.std.specs.List.{flat_map}
use Rattle.wast_core_types.specs.TypeViews.{item_tree}
use Rattle.wast_core_types.specs.declared.definition.TypeItem.{TypeItem}
use Rattle.wast_meaning.specs.Mentions.{says, type_mentions}
use Rattle.wast_mentions.specs.Judging.{Judged}
use Rattle.wast_mentions.proofs.Judging.{unmet}
use Rattle.wast_parts.proofs.OfAnyKind.{memory_says}
use Rattle.wast_parts.proofs.fields.tell_parts.Goals as goal

pub returns-in-Rec : goal.returns-in-Rec
returns-in-Rec g c =
    let j = g.J.PartJudgement in
    let asks = j.asks c.args.judge.now in
    rw (c.in-Rec.is) (subst (λ (ts : List TypeItem). Judged asks j.holds j.tells c.tell_types.result (says (flat_map type_mentions (map item_tree ts)))) c.deref.ensures.value c.tell_types.ensures)

pub returns-in-Memory : goal.returns-in-Memory
returns-in-Memory g c =
    let j = g.J.PartJudgement in
    let asks = j.asks c.args.judge.now in
    rw (c.in-Memory.is) (ap (unmet asks j.holds j.tells) (sym (memory_says c.in-Memory.field-0.kind)))
