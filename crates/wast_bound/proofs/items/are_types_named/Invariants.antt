use Rattle.std.proofs.Common.{◌≡◌, map, drop}
use Rattle.std.specs.List.{list_any}
use Rattle.wast_parser.specs.Identifiers.{identifier_tree}
use Rattle.wast_core_types.specs.TypeViews.{item_tree}
use Rattle.wast_meaning.specs.Spaces.{bound_type}
use Rattle.wast_meaning.specs.Views.{space_view}
use Rattle.wast_bound.specs.Bound.{joins}
use Rattle.wast_bound.proofs.items.are_types_named.Given as goal

abbrev pub invariant-loop-item : goal.invariant-loop-item
invariant-loop-item l =
    let named = joins (space_view l.space) (identifier_tree l.id).0 in
    list_any named (map bound_type (map item_tree (drop l.item-index l.types))) ≡ list_any named (map bound_type (map item_tree l.types))
