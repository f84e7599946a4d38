-- The names that fields say, and fresh ones (WebAssembly 3.0, 6.3.5: fresh identifiers).
use Rattle.std.specs.Prelude.{ℕ, suc, Bool, true, not, ◌&&◌, if◌then◌else◌, List, [], ◌∷◌, ◌++◌, map, option_to_list}
use Rattle.std.specs.List.{flat_map, list_any, list_all}
use Rattle.wast_parser.specs.Identifiers.{Reference, ByNumber, ByName}
use Rattle.wast_field_syntax.specs.FieldTree.{Field}
use Rattle.wast_meaning.specs.Written.{takes_name}
use Rattle.wast_meaning.specs.Mentions.{Mention, Refers, Member, Uses, UsesInBlock, Repeats, use_mentions, field_mentions}
use Rattle.wast_meaning.specs.Spaces.{items}

module _ {N P : Type 0} where
  abbrev pub reference_names : Reference N P → List N
  reference_names (ByNumber n p) = []
  reference_names (ByName id) = id.0 ∷ []

  abbrev pub said_names : Mention N P → List N
  said_names (Refers s i) = reference_names i
  said_names (Member t i) = reference_names i
  said_names (Repeats id) = id.0 ∷ []
  said_names _ = []

  abbrev pub use_names : Mention N P → List N
  use_names (Uses u) = flat_map said_names (use_mentions u)
  use_names (UsesInBlock u) = flat_map said_names (use_mentions u)
  use_names m = said_names m

  -- the names of the items of a field, and those that it says
  abbrev pub field_names : Field N P → List N
  field_names f = flat_map (λ b. map (λ id. id.0) (option_to_list b.id)) (items f) ++ flat_map use_names (field_mentions f)

  -- the fresh names that are taken
  abbrev pub taken_from : (ℕ → N) → ℕ → List (Field N P) → List N
  taken_from naming n [] = []
  taken_from naming n (f ∷ fs) = if takes_name f then naming n ∷ taken_from naming (suc n) fs else taken_from naming (suc n) fs

module _ {N : Type 0} (eq : N → N → Bool) where
  abbrev pub are_distinct : List N → Bool
  are_distinct [] = true
  are_distinct (n ∷ ns) = not (list_any (eq n) ns) && are_distinct ns

  abbrev pub are_new : List N → List N → Bool
  are_new ns others = list_all (λ n. not (list_any (eq n) others)) ns

-- the fresh names that are taken differ from each other and from those of the fields
abbrev pub is_fresh : {N P : Type 0} → (N → N → Bool) → (ℕ → N) → List (Field N P) → Bool
is_fresh eq naming fs = are_distinct eq (taken_from naming 0 fs) && are_new eq (taken_from naming 0 fs) (flat_map field_names fs)
