use Rattle.std.proofs.Common.{◌≡◌, map, drop}
use Rattle.std.specs.List.{list_any}
use Rattle.wast_grammar.specs.Spelling.{same_name}
use Rattle.wast_parser.specs.Identifiers.{identifier_tree}
use Rattle.wast_signatures.specs.SignatureViews.{struct_field_tree}
use Rattle.wast_names.specs.Position.{bears}
use Rattle.wast_names.specs.Space.{name_in}
use Rattle.wast_bound.proofs.types.is_field.Given as goal

abbrev pub invariant-loop-field : goal.invariant-loop-field
invariant-loop-field l =
    let named = bears same_name (identifier_tree l.id).0 in
    list_any named (map name_in (map (λ f. f.id) (map struct_field_tree (drop l.field-index l.fields)))) ≡ list_any named (map name_in (map (λ f. f.id) (map struct_field_tree l.fields)))
