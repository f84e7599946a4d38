use Rattle.wast_core_instr.specs.ExpressionViews.{expression_tree}
use Rattle.wast_meaning.specs.Mentions.{Constant}
use Rattle.wast_scopes.specs.Known.{part_by}
use Rattle.wast_scopes.specs.Views.{known}
use Rattle.wast_demands.proofs.Joined.{judged_one}
use Rattle.wast_demands.proofs.names.NamesPartJudge.judge_constant.Goals as goal

pub returns : goal.returns
returns c = judged_one c.check_constant.result (part_by (known c.args.self.now.scope.now)) (Constant (expression_tree c.args.expression.now)) c.check_constant.ensures
