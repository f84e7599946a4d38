use Rattle.std.proofs.Common.{◌≡◌, map, drop}
use Rattle.std.specs.List.{find}
use Rattle.wast_grammar.specs.Spelling.{same_name}
use Rattle.wast_parser.specs.Identifiers.{identifier_tree}
use Rattle.wast_core_types.specs.TypeViews.{item_tree}
use Rattle.wast_names.specs.Position.{bears}
use Rattle.wast_names.specs.Space.{name_in}
use Rattle.wast_bound.proofs.types.first_named.Given as goal

abbrev pub invariant-loop-item : goal.invariant-loop-item
invariant-loop-item l =
    find (λ t. bears same_name (identifier_tree l.name).0 (name_in t.id)) (map item_tree (drop l.item-index l.types))
    ≡ find (λ t. bears same_name (identifier_tree l.name).0 (name_in t.id)) (map item_tree l.types)
