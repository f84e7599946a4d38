use Rattle.wast_module_fields.specs.ElemViews.{elements_tree, mode_tree}
use Rattle.wast_meaning.specs.Mentions.{elem_mode_parts, elements_parts}
use Rattle.std.proofs.lemmas.Result.{err_from_is_err_and}
use Rattle.wast_mentions.proofs.Judging.{judged_then, judged_stops}
use Rattle.wast_parts.proofs.segments.tell_elem.Goals as goal

pub returns-in_err-tell_elem_kind : goal.returns-in_err-tell_elem_kind
returns-in_err-tell_elem_kind g c =
    let j = g.J.PartJudgement in
    let asks = j.asks c.args.judge.now in
    let ps = elem_mode_parts (mode_tree c.args.elem.now.kind) in
    let qs = elements_parts (elements_tree c.args.elem.now.payload) in
    let p = err_from_is_err_and c.from_residual.result c.from_residual.ensures.1 in
    rw (p.1, p.2) (judged_stops asks j.holds j.tells j.anywhere _ ps qs c.in_err-tell_elem_kind.ensures)

pub returns : goal.returns
returns g c =
    let j = g.J.PartJudgement in
    let asks = j.asks c.args.judge.now in
    let ps = elem_mode_parts (mode_tree c.args.elem.now.kind) in
    let qs = elements_parts (elements_tree c.args.elem.now.payload) in
    judged_then asks j.holds j.tells c.tell_elements.result ps qs c.in_ok-tell_elem_kind.ensures c.tell_elements.ensures
