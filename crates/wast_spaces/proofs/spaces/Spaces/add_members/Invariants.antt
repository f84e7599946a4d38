use Rattle.std.proofs.Common.{take}
use Rattle.std.specs.List.{flat_map}
use Rattle.wast_spaces.specs.Joins.{Joined}
use Rattle.wast_spaces.proofs.Written.{member_items}
use Rattle.wast_spaces.proofs.spaces.Spaces.add_members.Given as goal

abbrev pub invariant-loop-member : goal.invariant-loop-member
invariant-loop-member l = Joined l.fn.self l.self (flat_map member_items (take l.member-index l.members))
