use Rattle.std.proofs.Common.{List, map, subst}
use Rattle.wasm_encoder_base.specs.OperandSyntax.{Functions}
use Rattle.wast_parser.specs.Identifiers.{index_tree}
use Rattle.wast_parser_base.specs.declared.index.Index.{Index}
use Rattle.wast_value_types.specs.ValueViews.{ref_tree}
use Rattle.wast_core_instr.specs.ExpressionViews.{expression_tree}
use Rattle.wast_core_instr.specs.declared.expression.Expression.{Expression}
use Rattle.wast_meaning.specs.Mentions.{Constant, Refers, ref_mentions, says}
use Rattle.wast_mentions.specs.Judging.{Judged}
use Rattle.std.proofs.lemmas.Result.{err_from_is_err_and}
use Rattle.wast_mentions.proofs.Judging.{judged_then, judged_stops}
use Rattle.wast_parts.proofs.segments.tell_elements.Goals as goal

pub returns-in-Indices : goal.returns-in-Indices
returns-in-Indices g c =
    let j = g.J.PartJudgement in
    let asks = j.asks c.args.judge.now in
    rw (c.in-Indices.is) (subst (λ (is : List Index). Judged asks j.holds j.tells c.tell_functions.result (says (map (Refers Functions) (map index_tree is)))) c.deref.ensures.value c.tell_functions.ensures)

pub returns-in_err-tell_ref_type-in-Exprs : goal.returns-in_err-tell_ref_type-in-Exprs
returns-in_err-tell_ref_type-in-Exprs g c =
    let j = g.J.PartJudgement in
    let asks = j.asks c.args.judge.now in
    let ps = says (ref_mentions (ref_tree c.in-Exprs.ty)) in
    let qs = map Constant (map expression_tree c.in-Exprs.exprs.items) in
    let p = err_from_is_err_and c.from_residual.result c.from_residual.ensures.1 in
    rw (c.in-Exprs.is, p.1, p.2) (judged_stops asks j.holds j.tells j.anywhere _ ps qs c.in_err-tell_ref_type-in-Exprs.ensures)

pub returns-in_ok-tell_ref_type-in-Exprs : goal.returns-in_ok-tell_ref_type-in-Exprs
returns-in_ok-tell_ref_type-in-Exprs g c =
    let j = g.J.PartJudgement in
    let asks = j.asks c.args.judge.now in
    let ps = says (ref_mentions (ref_tree c.in-Exprs.ty)) in
    let qs = map Constant (map expression_tree c.in-Exprs.exprs.items) in
    rw (c.in-Exprs.is) (judged_then asks j.holds j.tells c.tell_constants.result ps qs c.in_ok-tell_ref_type-in-Exprs.ensures (subst (λ (es : List Expression). Judged asks j.holds j.tells c.tell_constants.result (map Constant (map expression_tree es))) c.deref-in-Exprs.ensures.value c.tell_constants.ensures))
