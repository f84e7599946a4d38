use Rattle.std.proofs.Common.{map}
use Rattle.std.specs.Prelude.{option_map, option_to_list}
use Rattle.wast_value_types.specs.ValueViews.{ref_tree}
use Rattle.wast_core_instr.specs.ExpressionViews.{expression_tree}
use Rattle.wast_module_fields.specs.ElemViews.{elements_tree}
use Rattle.wast_meaning.specs.Mentions.{Constant, elements_parts, ref_mentions, says}
use Rattle.std.proofs.lemmas.Result.{err_from_is_err_and}
use Rattle.wast_mentions.proofs.Judging.{judged_then, judged_stops}
use Rattle.wast_parts.proofs.definitions.tell_table.Goals as goal

pub returns-in_err-tell_ref_type-in-Normal : goal.returns-in_err-tell_ref_type-in-Normal
returns-in_err-tell_ref_type-in-Normal g c =
    let j = g.J.PartJudgement in
    let asks = j.asks c.args.judge.now in
    let ps = says (ref_mentions (ref_tree c.in-Normal.ty.elem)) in
    let qs = map Constant (option_to_list (option_map expression_tree c.in-Normal.init_expr)) in
    let p = err_from_is_err_and c.from_residual.result c.from_residual.ensures.1 in
    rw (c.in-Normal.is, p.1, p.2) (judged_stops asks j.holds j.tells j.anywhere _ ps qs c.in_err-tell_ref_type-in-Normal.ensures)

pub returns-in_ok-tell_ref_type-in-Normal : goal.returns-in_ok-tell_ref_type-in-Normal
returns-in_ok-tell_ref_type-in-Normal g c =
    let j = g.J.PartJudgement in
    let asks = j.asks c.args.judge.now in
    let ps = says (ref_mentions (ref_tree c.in-Normal.ty.elem)) in
    let qs = map Constant (option_to_list (option_map expression_tree c.in-Normal.init_expr)) in
    rw (c.in-Normal.is) (judged_then asks j.holds j.tells c.tell_constant_if.result ps qs c.in_ok-tell_ref_type-in-Normal.ensures c.tell_constant_if.ensures)

pub returns-in_err-tell_ref_type-in-Inline : goal.returns-in_err-tell_ref_type-in-Inline
returns-in_err-tell_ref_type-in-Inline g c =
    let j = g.J.PartJudgement in
    let asks = j.asks c.args.judge.now in
    let ps = says (ref_mentions (ref_tree c.in-Inline.elem)) in
    let qs = elements_parts (elements_tree c.in-Inline.payload) in
    let p = err_from_is_err_and c.from_residual-in_err-tell_ref_type-in-Inline.result c.from_residual-in_err-tell_ref_type-in-Inline.ensures.1 in
    rw (c.in-Inline.is, p.1, p.2) (judged_stops asks j.holds j.tells j.anywhere _ ps qs c.in_err-tell_ref_type-in-Inline.ensures)

pub returns-in_ok-tell_ref_type-in-Inline : goal.returns-in_ok-tell_ref_type-in-Inline
returns-in_ok-tell_ref_type-in-Inline g c =
    let j = g.J.PartJudgement in
    let asks = j.asks c.args.judge.now in
    let ps = says (ref_mentions (ref_tree c.in-Inline.elem)) in
    let qs = elements_parts (elements_tree c.in-Inline.payload) in
    rw (c.in-Inline.is) (judged_then asks j.holds j.tells c.tell_elements.result ps qs c.in_ok-tell_ref_type-in-Inline.ensures c.tell_elements.ensures)
