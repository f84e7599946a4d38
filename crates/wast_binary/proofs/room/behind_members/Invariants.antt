use Rattle.std.proofs.Common.{◌+◌, ◌≤◌, map, take}
use Rattle.wast_imports.specs.ImportViews.{member_tree}
use Rattle.wast_binary.specs.Weight.{total, extern_weight}
use Rattle.wast_binary.proofs.room.behind_members.Given as goal

abbrev pub invariant-loop-member : goal.invariant-loop-member
invariant-loop-member l = l.left + total (λ i. extern_weight i.1.extern_type + 1) (map member_tree (take l.member-index l.members)) ≤ l.room
