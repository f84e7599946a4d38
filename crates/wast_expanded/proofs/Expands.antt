-- Fields are expanded by the types that are gathered from them.
use Rattle.std.proofs.Common.{◌≡◌, ℕ, List, ◌++◌, map, ap}
use Rattle.wast_grammar.specs.Tokens.{Name}
use Rattle.wast_parser.specs.Spelling.{same_name}
use Rattle.wast_signatures.specs.TypeTree.{Sig}
use Rattle.wast_module_fields.specs.FieldTree.{Field, field_place}
use Rattle.wast_meaning.specs.Changed.{field_changed}
use Rattle.wast_meaning.specs.Implied.{implied, type_taken}
use Rattle.wast_meaning.specs.Numbered.{taking, with_types, implied_field, expanded}
use Rattle.wast_implied.specs.Shapes.{shape}
use Rattle.wast_implied.specs.Known.{Known}
use Rattle.wast_changed.specs.Rewritten.{everywhere, together}
use Rattle.wast_expanded.specs.Expanding.{taken, field_taken, expanded_by}

-- By the types of the fields, in which each use finds the type that it takes, they are expanded as they are defined to be.
pub as_expanded : (k : Known) (fs : List (Field Name ℕ)) → ((s : Sig Name ℕ) → k.types.look (shape s) ≡ type_taken same_name fs s) → k.implied ≡ implied same_name fs
    → expanded_by k fs ≡ expanded same_name fs
as_expanded k fs looks types =
    let takes : taken k ≡ type_taken same_name fs = λ t. λ s. looks s t in
    λ t. map (λ f. with_types (takes t) (field_place f) f) fs ++ map implied_field (types t)

-- What is rewritten by the types at the place of a field is the field whose uses have their types.
pub as_taken : (k : Known) (p : ℕ) (f : Field Name ℕ) → p ≡ field_place f
    → field_changed (together (taking (taken k) p) (everywhere (taking (taken k) p)) (λ g. everywhere (taking (taken k) p))) f ≡ field_taken k f
as_taken k p f e = ap (λ q. with_types (taken k) q f) e
