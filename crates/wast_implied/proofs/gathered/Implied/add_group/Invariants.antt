use Rattle.std.proofs.Common.{◌≡◌, true, take}
use Rattle.wast_core_types.specs.TypeViews.{item_tree}
use Rattle.wast_names.specs.Walk.{reached}
use Rattle.wast_implied.specs.Known.{after_written}
use Rattle.wast_implied.specs.Views.{known}
use Rattle.wast_implied.proofs.gathered.Implied.add_group.Given as goal

abbrev pub invariant-loop-item : goal.invariant-loop-item
invariant-loop-item l = known l.self ≡ reached (λ k t. after_written k (item_tree t, true)) (known l.fn.self) (take l.item-index l.items)
