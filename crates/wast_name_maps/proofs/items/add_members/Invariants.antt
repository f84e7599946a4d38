use Rattle.std.proofs.Common.{take}
use Rattle.std.specs.List.{flat_map}
use Rattle.wast_meaning.specs.Views.{space_view}
use Rattle.wast_name_maps.specs.Numbered.{NamesJoined}
use Rattle.wast_name_maps.proofs.Gathering.{member_names}
use Rattle.wast_name_maps.proofs.items.add_members.Given as goal

abbrev pub invariant-loop-member : goal.invariant-loop-member
invariant-loop-member l = NamesJoined l.fn.names l.names (flat_map (member_names (space_view l.space)) (take l.member-index l.members))
