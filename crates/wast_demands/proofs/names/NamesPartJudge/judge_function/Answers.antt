use Rattle.wast_meaning.specs.Mentions.{Body}
use Rattle.wast_module_fields.specs.FuncViews.{function_tree}
use Rattle.wast_scopes.specs.Known.{part_by}
use Rattle.wast_scopes.specs.Views.{known}
use Rattle.wast_demands.proofs.Joined.{judged_one}
use Rattle.wast_demands.proofs.names.NamesPartJudge.judge_function.Goals as goal

pub returns : goal.returns
returns c = judged_one c.check_func.result (part_by (known c.args.self.now.scope.now)) (Body (function_tree c.args.ty.now c.args.locals.now c.args.body.now)) c.check_func.ensures
