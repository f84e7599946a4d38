use Rattle.std.proofs.Common.{◌≡◌, map, drop}
use Rattle.std.specs.List.{list_any}
use Rattle.wast_parser.specs.Identifiers.{identifier_tree}
use Rattle.wast_imports.specs.ImportViews.{member_tree}
use Rattle.wast_meaning.specs.Spaces.{bound_import}
use Rattle.wast_meaning.specs.Views.{space_view}
use Rattle.wast_bound.specs.Bound.{joins}
use Rattle.wast_bound.proofs.items.are_members_named.Given as goal

abbrev pub invariant-loop-member : goal.invariant-loop-member
invariant-loop-member l =
    let named = joins (space_view l.space) (identifier_tree l.id).0 in
    list_any named (map (λ i. bound_import i.1) (map member_tree (drop l.member-index l.members))) ≡ list_any named (map (λ i. bound_import i.1) (map member_tree l.members))
