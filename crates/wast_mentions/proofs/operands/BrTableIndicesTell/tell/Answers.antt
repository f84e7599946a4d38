use Rattle.std.proofs.Common.{◌≡◌, None, map, subst}
use Rattle.std.proofs.lemmas.Result.{err_from_is_err_and}
use Rattle.wasm_encoder_base.specs.OperandSyntax.{Labels}
use Rattle.wast_parser.specs.Identifiers.{index_tree}
use Rattle.wast_meaning.specs.Mentions.{Refers}
use Rattle.wast_mentions.proofs.Judging.{unmet, judged_then, judged_stops}
use Rattle.wast_mentions.proofs.operands.BrTableIndicesTell.tell.Goals as goal

pub returns-in_err-tell_indices : goal.returns-in_err-tell_indices
returns-in_err-tell_indices g c =
    let j = g.J.Judgement in
    let asks = j.asks c.args.judge.now in
    let p = err_from_is_err_and c.from_residual.result c.from_residual.ensures.1 in
    rw (p.1, p.2) (judged_stops asks j.holds j.tells j.anywhere _ _ _ (subst (λ is. j.tells (unmet asks j.holds j.tells (map (Refers Labels) (map index_tree is))) c.in_err-tell_indices.field-0.0) c.deref.ensures.value c.in_err-tell_indices.ensures))

pub returns : goal.returns
returns g c =
    let j = g.J.Judgement in
    let asks = j.asks c.args.judge.now in
    judged_then asks j.holds j.tells c.tell_index.result _ _ (subst (λ is. unmet asks j.holds j.tells (map (Refers Labels) (map index_tree is)) ≡ None) c.deref.ensures.value c.in_ok-tell_indices.ensures) c.tell_index.ensures
