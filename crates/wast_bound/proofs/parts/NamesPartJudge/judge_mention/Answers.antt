use Rattle.wast_mentions.specs.Views.{mention_tree}
use Rattle.wast_bound.proofs.Kept.{judged_says}
use Rattle.wast_bound.proofs.parts.NamesPartJudge.judge_mention.Goals as goal

pub returns : goal.returns
returns g c = judged_says c.judge.result (mention_tree c.args.mention) (g.K.Known.scope c.args.self.now.known) c.judge.ensures
