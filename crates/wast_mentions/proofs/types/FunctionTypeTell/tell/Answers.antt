use Rattle.std.proofs.Common.{ap, sym, ◌∙◌, subst}
use Rattle.std.proofs.lemmas.Result.{err_from_is_err_and}
use Rattle.wast_value_types.specs.ValueViews.{val_tree}
use Rattle.wast_signatures.specs.SignatureViews.{param_tree}
use Rattle.wast_meaning.specs.Mentions.{val_mentions}
use Rattle.wast_mentions.proofs.Judging.{each_seen, unmet, judged_as, judged_then, judged_stops}
use Rattle.wast_mentions.proofs.types.FunctionTypeTell.tell.Goals as goal

pub returns-in_err-tell_each : goal.returns-in_err-tell_each
returns-in_err-tell_each g c =
    let j = g.J.Judgement in
    let asks = j.asks c.args.judge.now in
    let params = each_seen (λ l. val_mentions l.val_type) param_tree c.deref.result.now c.args.self.now.params.items c.deref.ensures.value in
    let p = err_from_is_err_and c.from_residual.result c.from_residual.ensures.1 in
    rw (p.1, p.2) (judged_stops asks j.holds j.tells j.anywhere _ _ _ (subst (λ ms. j.tells (unmet asks j.holds j.tells ms) c.in_err-tell_each.field-0.0) params c.in_err-tell_each.ensures))

pub returns : goal.returns
returns g c =
    let j = g.J.Judgement in
    let asks = j.asks c.args.judge.now in
    let params = each_seen (λ l. val_mentions l.val_type) param_tree c.deref.result.now c.args.self.now.params.items c.deref.ensures.value in
    let results = each_seen val_mentions val_tree c.deref-2.result.now c.args.self.now.results.items c.deref-2.ensures.value in
    judged_then asks j.holds j.tells c.tell_each-2.result _ _ (ap (unmet asks j.holds j.tells) (sym params) ∙ c.in_ok-tell_each.ensures) (judged_as asks j.holds j.tells c.tell_each-2.result _ _ results c.tell_each-2.ensures)
