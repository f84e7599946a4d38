use Rattle.std.proofs.Common.{refl, ap, sym, ◌∙◌, subst}
use Rattle.wast_module_fields.specs.ModuleFieldViews.{field_tree}
use Rattle.wast_meaning.specs.Mentions.{parts}
use Rattle.wast_mentions.proofs.Judging.{each_seen, unmet, each_goes, each_ends, each_stops}
use Rattle.wast_parts.proofs.fields.tell_all_parts.Goals as goal

pub loop-field-preserved : goal.loop-field-preserved
loop-field-preserved g c =
    let j = g.J.PartJudgement in
    let asks = j.asks c.args.judge.now in
    each_goes asks j.holds j.tells (λ f. parts (field_tree f)) _ _ _ c.loop-field-test.true c.field-item.is c.in-Ok.ensures c.loop-field.invariant

pub returns : goal.returns
returns g c =
    let j = g.J.PartJudgement in
    let asks = j.asks c.args.judge.now in
    let seen = each_seen parts field_tree c.args.fields.now c.args.fields.now refl in
    ap (unmet asks j.holds j.tells) (sym seen) ∙ each_ends asks j.holds j.tells (λ f. parts (field_tree f)) _ _ c.loop-field-test.false c.loop-field.invariant

pub returns-in-Err : goal.returns-in-Err
returns-in-Err g c =
    let j = g.J.PartJudgement in
    let asks = j.asks c.args.judge.now in
    let seen = each_seen parts field_tree c.args.fields.now c.args.fields.now refl in
    subst (λ ps. j.tells (unmet asks j.holds j.tells ps) c.in-Err.fault) seen
    (each_stops asks j.holds j.tells (λ f. parts (field_tree f)) j.anywhere _ _ _ _ c.loop-field-test.true c.field-item.is c.in-Err.ensures c.loop-field.invariant)
