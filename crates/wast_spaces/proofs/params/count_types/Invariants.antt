use Rattle.std.proofs.Common.{◌≡◌, ◌++◌, true, map, take}
use Rattle.wast_core_types.specs.TypeViews.{item_tree}
use Rattle.wast_spaces.specs.Params.{param_count}
use Rattle.wast_spaces.proofs.params.count_types.Given as goal

abbrev pub invariant-loop-item : goal.invariant-loop-item
invariant-loop-item l = l.counts.items ≡ l.fn.counts.items ++ map param_count (map (λ t. (t, true)) (map item_tree (take l.item-index l.items)))
