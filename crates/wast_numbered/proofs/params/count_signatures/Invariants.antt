use Rattle.std.proofs.Common.{◌≡◌, ◌++◌, map, take}
use Rattle.wast_implied.specs.Views.{implied_tree}
use Rattle.wast_numbered.specs.Params.{implied_count}
use Rattle.wast_numbered.proofs.params.count_signatures.Given as goal

abbrev pub invariant-loop-ty : goal.invariant-loop-ty
invariant-loop-ty l = l.counts.items ≡ l.fn.counts.items ++ map implied_count (map implied_tree (take l.ty-index l.types))
