use Rattle.std.proofs.Common.{◌∙◌}
use Rattle.wast_grammar.specs.Spelling.{same_name}
use Rattle.wast_core_instr.specs.ExpressionViews.{expression_tree}
use Rattle.wast_meaning.specs.Demands.{part_demands}
use Rattle.wast_meaning.specs.Mentions.{Constant}
use Rattle.wast_bound.proofs.Kept.{judged_one}
use Rattle.wast_bound.proofs.parts.NamesPartJudge.judge_constant.Goals as goal

pub returns : goal.returns
returns g c = judged_one (part_demands same_name (g.K.Known.scope c.args.self.now.known)) c.answer.result (Constant (expression_tree c.args.expression.now)) (c.answer.ensures ∙ c.is_expression_bound.ensures)
