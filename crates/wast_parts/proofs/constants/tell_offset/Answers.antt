use Rattle.std.proofs.Common.{[], ◌∷◌}
use Rattle.std.specs.Prelude.{option_map}
use Rattle.wast_parser.specs.Identifiers.{index_tree}
use Rattle.wast_core_instr.specs.ExpressionViews.{expression_tree}
use Rattle.wast_meaning.specs.Mentions.{Constant, refers_if, says}
use Rattle.wast_meaning.specs.Views.{space_view}
use Rattle.std.proofs.lemmas.Result.{err_from_is_err_and}
use Rattle.wast_mentions.proofs.Judging.{judged_then, judged_stops}
use Rattle.wast_parts.proofs.constants.tell_offset.Goals as goal

pub returns-in_err-tell_target : goal.returns-in_err-tell_target
returns-in_err-tell_target g c =
    let j = g.J.PartJudgement in
    let asks = j.asks c.args.judge.now in
    let ps = says (refers_if (space_view c.args.space) (option_map index_tree c.args.target.now)) in
    let qs = Constant (expression_tree c.args.offset.now) ∷ [] in
    let p = err_from_is_err_and c.from_residual.result c.from_residual.ensures.1 in
    rw (p.1, p.2) (judged_stops asks j.holds j.tells j.anywhere _ ps qs c.in_err-tell_target.ensures)

pub returns : goal.returns
returns g c =
    let j = g.J.PartJudgement in
    let asks = j.asks c.args.judge.now in
    let ps = says (refers_if (space_view c.args.space) (option_map index_tree c.args.target.now)) in
    let qs = Constant (expression_tree c.args.offset.now) ∷ [] in
    judged_then asks j.holds j.tells c.judge_constant.result ps qs c.in_ok-tell_target.ensures c.judge_constant.ensures
