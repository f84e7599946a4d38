use Rattle.std.proofs.Common.{take}
use Rattle.std.specs.List.{flat_map}
use Rattle.wast_name_maps.specs.Kinds.{inside_view}
use Rattle.wast_name_maps.specs.Numbered.{GroupsJoined}
use Rattle.wast_name_maps.proofs.Gathering.{member_groups}
use Rattle.wast_name_maps.proofs.inside.add_members.Given as goal

abbrev pub invariant-loop-member : goal.invariant-loop-member
invariant-loop-member l = GroupsJoined l.fn.groups l.groups (flat_map (member_groups (inside_view l.kind)) (take l.member-index l.members))
