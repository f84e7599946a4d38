use Rattle.std.proofs.Common.{[], ◌∷◌}
use Rattle.wast_parser.specs.Identifiers.{index_tree}
use Rattle.wast_meaning.specs.Mentions.{Refers}
use Rattle.wast_meaning.specs.Views.{space_view}
use Rattle.wast_mentions.proofs.Judging.{Left}
use Rattle.wast_mentions.proofs.tell.tell_indices.Given as goal

abbrev pub invariant-loop-index : goal.invariant-loop-index
invariant-loop-index g l = let j = g.J.Judgement in Left (j.asks l.fn.judge) j.holds j.tells (λ x. Refers (space_view l.space) (index_tree x) ∷ []) l.indices l.index-index
