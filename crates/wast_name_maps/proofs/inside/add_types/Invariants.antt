use Rattle.std.proofs.Common.{take}
use Rattle.std.specs.List.{flat_map}
use Rattle.wast_name_maps.specs.Kinds.{inside_view}
use Rattle.wast_name_maps.specs.Numbered.{GroupsJoined}
use Rattle.wast_name_maps.proofs.Gathering.{item_groups}
use Rattle.wast_name_maps.proofs.inside.add_types.Given as goal

abbrev pub invariant-loop-item : goal.invariant-loop-item
invariant-loop-item l = GroupsJoined l.fn.groups l.groups (flat_map (item_groups (inside_view l.kind)) (take l.item-index l.types))
