use Rattle.std.proofs.Common.{◌+◌, ◌≤◌, map, take}
use Rattle.wast_core_types.specs.TypeViews.{item_tree}
use Rattle.wast_binary.specs.Weight.{total, type_weight}
use Rattle.wast_binary.proofs.room.behind_types.Given as goal

abbrev pub invariant-loop-item : goal.invariant-loop-item
invariant-loop-item l = l.left + total type_weight (map item_tree (take l.item-index l.items)) ≤ l.room
