use Rattle.std.proofs.Common.{take}
use Rattle.std.specs.List.{flat_map}
use Rattle.wast_spaces.specs.Joins.{Joined}
use Rattle.wast_spaces.proofs.Written.{type_items}
use Rattle.wast_spaces.proofs.spaces.Spaces.add_types.Given as goal

abbrev pub invariant-loop-item : goal.invariant-loop-item
invariant-loop-item l = Joined l.fn.self l.self (flat_map type_items (take l.item-index l.types))
