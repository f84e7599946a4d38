-- Names that are made up, and what is demanded of them.
use Rattle.std.specs.Prelude.{ℕ, ◌+◌, ◌-◌, Bool, false, ◌&&◌, ◌≡◌, List, [], ◌∷◌, map, Option, Some, None, is_some}
use Rattle.std.specs.List.{flat_map, list_any}
use Rattle.wasm_encoder_base.specs.Balanced.{Turn, Opens, Closes, Stays}
use Rattle.wasm_encoder_base.specs.Table.{Space}
use Rattle.wast_grammar.specs.Tokens.{Name}
use Rattle.wast_grammar.specs.Spelling.{same_name}
use Rattle.wast_names.specs.Position.{bears}
use Rattle.wast_names.specs.Space.{name_in}
use Rattle.wast_names.specs.Demand.{Demand}
use Rattle.wast_signatures.specs.TypeTree.{TypeItem}
use Rattle.wast_fields.specs.FieldTree.{Field, TypeField, RecField}
use Rattle.wast_parser.specs.Identifiers.{Reference}
use Rattle.wast_meaning.specs.Spaces.{Bound, same_space, fields_of, items}
use Rattle.wast_meaning.specs.Scope.{scope_of, members}
use Rattle.wast_meaning.specs.Made.{is_made}
use Rattle.wast_meaning.specs.WellFormed.{is_bound, are_bound}

-- a demand is met, unless it is of another kind or of a name that is read
abbrev pub is_kept : Demand Name ℕ → Bool
is_kept d = is_bound is_made d.complaint d.holds

abbrev pub are_kept : List (Demand Name ℕ) → Bool
are_kept ds = are_bound same_name is_made ds

-- a demand isn't kept
abbrev pub Broken : {E : Type 0} → Option (Demand Name ℕ) → E → Type 0
Broken first fault = first ≡ None → ⊥

-- an item of this space bears the name
abbrev pub joins : Space → Name → Bound Name ℕ → Bool
joins s n b = same_space s b.space && bears same_name n (name_in b.id)

-- the types that a field writes
abbrev pub types : Field Name ℕ → List (TypeItem Name ℕ)
types (TypeField t) = t ∷ []
types (RecField r) = r.types
types _ = []

-- a type, if there is one, has a field that bears the name
abbrev pub has : Name → Option (TypeItem Name ℕ) → Bool
has n None = false
has n (Some t) = list_any (bears same_name n) (map name_in (fields_of t.definition.comp.inner))

-- from the back: how many of the blocks that are open before an instruction are closed later, where so many are of those open after it
abbrev pub closed_before : Turn → ℕ → ℕ
closed_before Opens closed = closed - 1
closed_before Closes closed = closed + 1
closed_before Stays closed = closed

-- what fields tell of a name: whether an item of a space bears it, or a field of the type that an index means
abbrev pub tells : List (Field Name ℕ) → Space → Option (Reference Name ℕ) → Name → Bool
tells fs s None n = list_any (joins s n) (flat_map items fs)
tells fs s (Some i) n = is_some ((members (scope_of same_name fs) i).look n)
