use Rattle.std.proofs.Common.{take}
use Rattle.std.specs.List.{flat_map}
use Rattle.wast_meaning.specs.Views.{space_view}
use Rattle.wast_name_maps.specs.Numbered.{NamesJoined}
use Rattle.wast_name_maps.proofs.Gathering.{type_names}
use Rattle.wast_name_maps.proofs.items.add_types.Given as goal

abbrev pub invariant-loop-item : goal.invariant-loop-item
invariant-loop-item l = NamesJoined l.fn.names l.names (flat_map (type_names (space_view l.space)) (take l.item-index l.types))
