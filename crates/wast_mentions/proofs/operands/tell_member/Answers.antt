use Rattle.std.proofs.Common.{[], ◌∷◌}
use Rattle.std.proofs.lemmas.Result.{err_from_is_err_and}
use Rattle.wast_parser.specs.Identifiers.{index_tree}
use Rattle.wast_meaning.specs.Mentions.{Member}
use Rattle.wast_mentions.proofs.Judging.{judged_next, judged_stops_next}
use Rattle.wast_mentions.proofs.operands.tell_member.Goals as goal

pub returns-in_err-tell_index : goal.returns-in_err-tell_index
returns-in_err-tell_index g c =
    let j = g.J.Judgement in
    let asks = j.asks c.args.judge.now in
    let p = err_from_is_err_and c.from_residual.result c.from_residual.ensures.1 in
    rw (p.1, p.2) (judged_stops_next asks j.holds j.tells j.anywhere _ _ (Member (index_tree c.args.access.now.struct_type) (index_tree c.args.access.now.field) ∷ []) c.in_err-tell_index.ensures)

pub returns : goal.returns
returns g c =
    let j = g.J.Judgement in
    let asks = j.asks c.args.judge.now in
    judged_next asks j.holds j.tells c.judge.result _ _ c.in_ok-tell_index.ensures c.judge.ensures
