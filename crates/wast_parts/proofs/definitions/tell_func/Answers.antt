use Rattle.std.proofs.Common.{List, [], ◌∷◌, subst}
use Rattle.wast_meaning.specs.Mentions.{Body}
use Rattle.wast_module_fields.specs.Local.{Local}
use Rattle.wast_mentions.specs.Judging.{Judged}
use Rattle.wast_mentions.proofs.Judging.{judged_as}
use Rattle.wast_module_fields.specs.FuncViews.{function_tree}
use Rattle.wast_parts.proofs.OfAnyKind.{func_says}
use Rattle.wast_parts.proofs.definitions.tell_func.Goals as goal

pub returns-in-Import : goal.returns-in-Import
returns-in-Import g c =
    let j = g.J.PartJudgement in
    let asks = j.asks c.args.judge.now in
    rw (c.in-Import.is) (judged_as asks j.holds j.tells c.judge_mention.result _ _ (func_says c.in-Import.is_exact c.args.func.now.ty) c.judge_mention.ensures)

pub returns-in-Inline : goal.returns-in-Inline
returns-in-Inline g c =
    let j = g.J.PartJudgement in
    let asks = j.asks c.args.judge.now in
    rw (c.in-Inline.is) (subst (λ (ls : List Local). Judged asks j.holds j.tells c.judge_function.result (Body (function_tree c.args.func.now.ty ls c.in-Inline.expression) ∷ [])) c.deref.ensures.value c.judge_function.ensures)
