use Rattle.std.proofs.Common.{take}
use Rattle.std.specs.List.{flat_map}
use Rattle.wast_spaces.specs.Joins.{Joined}
use Rattle.wast_spaces.proofs.Written.{items_of_each}
use Rattle.wast_spaces.proofs.spaces.Spaces.add_for_each.Given as goal

abbrev pub invariant-loop-member : goal.invariant-loop-member
invariant-loop-member l = Joined l.fn.self l.self (flat_map (items_of_each l.sig) (take l._member-index l.members))
