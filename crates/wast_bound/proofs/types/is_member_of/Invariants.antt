use Rattle.std.proofs.Common.{ℕ, Bool, ◌≡◌, map}
use Rattle.std.specs.List.{find, flat_map}
use Rattle.wast_grammar.specs.Tokens.{Name}
use Rattle.wast_grammar.specs.Spelling.{same_name}
use Rattle.wast_parser.specs.Identifiers.{identifier_tree}
use Rattle.wast_signatures.specs.TypeTree.{TypeItem}
use Rattle.wast_core.specs.ModuleFieldViews.{field_tree}
use Rattle.wast_names.specs.Position.{bears}
use Rattle.wast_names.specs.Space.{name_in}
use Rattle.wast_bound.specs.Bound.{types}
use Rattle.wast_bound.proofs.TypeWalk.{types_from}
use Rattle.wast_bound.proofs.types.is_member_of.Given as goal

abbrev pub invariant-loop-field : goal.invariant-loop-field
invariant-loop-field l =
    let p : TypeItem Name ℕ → Bool = λ t. bears same_name (identifier_tree l.name).0 (name_in t.id) in
    find p (types_from field_tree types l.fields l.field-index) ≡ find p (flat_map types (map field_tree l.fields))
