use Rattle.std.proofs.Common.{◌∷◌}
use Rattle.std.specs.List.{flat_map}
use Rattle.std.proofs.lemmas.Result.{err_from_is_err_and}
use Rattle.wasm_encoder_base.specs.OperandSyntax.{Tags}
use Rattle.wast_parser.specs.Identifiers.{index_tree}
use Rattle.wast_operands.specs.OperandViews.{handle_tree, handlers_tree}
use Rattle.wast_meaning.specs.Mentions.{Refers, handle_mentions}
use Rattle.wast_mentions.proofs.Judging.{each_seen, judged_as, judged_next, judged_stops_next, told_next}
use Rattle.wast_mentions.proofs.operands.tell_resume_throw.Goals as goal

pub returns-in_err-tell_index : goal.returns-in_err-tell_index
returns-in_err-tell_index g c =
    let j = g.J.Judgement in
    let asks = j.asks c.args.judge.now in
    let p = err_from_is_err_and c.from_residual.result c.from_residual.ensures.1 in
    rw (p.1, p.2) (judged_stops_next asks j.holds j.tells j.anywhere _ _ (Refers Tags (index_tree c.args.tag.now) ∷ flat_map handle_mentions (handlers_tree c.args.table.now)) c.in_err-tell_index.ensures)

pub returns-in_err-tell_index-2 : goal.returns-in_err-tell_index-2
returns-in_err-tell_index-2 g c =
    let j = g.J.Judgement in
    let asks = j.asks c.args.judge.now in
    let p = err_from_is_err_and c.from_residual-in_err-tell_index-2.result c.from_residual-in_err-tell_index-2.ensures.1 in
    rw (p.1, p.2) (told_next asks j.holds j.tells _ _ (Refers Tags (index_tree c.args.tag.now) ∷ flat_map handle_mentions (handlers_tree c.args.table.now)) c.in_ok-tell_index.ensures (judged_stops_next asks j.holds j.tells j.anywhere _ _ (flat_map handle_mentions (handlers_tree c.args.table.now)) c.in_err-tell_index-2.ensures))

pub returns : goal.returns
returns g c =
    let j = g.J.Judgement in
    let asks = j.asks c.args.judge.now in
    let handlers = each_seen handle_mentions handle_tree c.deref.result.now c.args.table.now.handlers.items c.deref.ensures.value in
    judged_next asks j.holds j.tells c.tell_each.result _ _ c.in_ok-tell_index.ensures (judged_next asks j.holds j.tells c.tell_each.result _ _ c.in_ok-tell_index-2.ensures (judged_as asks j.holds j.tells c.tell_each.result _ _ handlers c.tell_each.ensures))
