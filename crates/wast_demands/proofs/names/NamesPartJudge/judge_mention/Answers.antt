use Rattle.wast_mentions.specs.Views.{mention_tree}
use Rattle.wast_meaning.specs.Mentions.{Says}
use Rattle.wast_scopes.specs.Known.{part_by}
use Rattle.wast_scopes.specs.Views.{known}
use Rattle.wast_demands.proofs.Joined.{judged_one}
use Rattle.wast_demands.proofs.names.NamesPartJudge.judge_mention.Goals as goal

pub returns : goal.returns
returns c = judged_one c.check_mention.result (part_by (known c.args.self.now.scope.now)) (Says (mention_tree c.args.mention)) c.check_mention.ensures
