use Rattle.wast_mentions.proofs.Judging.{Left}
use Rattle.wast_mentions.proofs.tell.tell_each.Given as goal

abbrev pub invariant-loop-item : goal.invariant-loop-item
invariant-loop-item g l = Left (g.J.Judgement.asks l.fn.judge) g.J.Judgement.holds g.J.Judgement.tells g.T.Mentions.mentions l.items l.item-index
