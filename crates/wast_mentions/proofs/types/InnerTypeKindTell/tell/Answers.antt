use Rattle.wast_signatures.specs.SignatureViews.{struct_field_tree}
use Rattle.wast_meaning.specs.Mentions.{storage_mentions}
use Rattle.wast_mentions.proofs.Judging.{each_seen, judged_as}
use Rattle.wast_mentions.proofs.types.InnerTypeKindTell.tell.Goals as goal

pub returns-in-Struct : goal.returns-in-Struct
returns-in-Struct g c =
    let j = g.J.Judgement in
    let asks = j.asks c.args.judge.now in
    let fields = each_seen (λ f. storage_mentions f.field_type.storage) struct_field_tree c.deref.result.now c.in-Struct.ty.fields.items c.deref.ensures.value in
    rw (c.in-Struct.is) (judged_as asks j.holds j.tells c.tell_each.result _ _ fields c.tell_each.ensures)
