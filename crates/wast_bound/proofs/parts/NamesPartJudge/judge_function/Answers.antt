use Rattle.std.proofs.Common.{◌∙◌}
use Rattle.wast_grammar.specs.Spelling.{same_name}
use Rattle.wast_meaning.specs.Demands.{part_demands}
use Rattle.wast_meaning.specs.Mentions.{Body}
use Rattle.wast_fields.specs.FuncViews.{function_tree}
use Rattle.wast_bound.proofs.Kept.{judged_one}
use Rattle.wast_bound.proofs.parts.NamesPartJudge.judge_function.Goals as goal

pub returns : goal.returns
returns g c =
    judged_one (part_demands same_name (g.K.Known.scope c.args.self.now.known)) c.answer.result (Body (function_tree c.args.ty.now c.args.locals.now c.args.body.now))
    (c.answer.ensures ∙ c.is_function_bound.ensures)
