use Rattle.std.proofs.Common.{take}
use Rattle.std.specs.List.{flat_map}
use Rattle.wast_name_maps.specs.Kinds.{inside_view}
use Rattle.wast_name_maps.specs.Numbered.{GroupsJoined}
use Rattle.wast_name_maps.proofs.Gathering.{groups_of_each}
use Rattle.wast_name_maps.proofs.inside.add_for_each.Given as goal

abbrev pub invariant-loop-member : goal.invariant-loop-member
invariant-loop-member l = GroupsJoined l.fn.groups l.groups (flat_map (groups_of_each (inside_view l.kind) l.sig) (take l._member-index l.members))
