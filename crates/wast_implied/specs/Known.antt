-- What is known of a module's types while they are gathered: written types first, then the signatures of uses.
use Rattle.std.specs.Prelude.{ℕ, Bool, List, [], ◌∷◌, ◌++◌, map, Option, Some, None, option_map}
use Rattle.std.specs.List.{flat_map}
use Rattle.wast_grammar.specs.Tokens.{Name}
use Rattle.wast_signatures.specs.TypeTree.{Sig, TypeItem}
use Rattle.wast_names.specs.Walk.{reached}
use Rattle.wast_names.specs.Space.{Space, empty, grown}
use Rattle.wast_module_fields.specs.FieldTree.{Field, field_place}
use Rattle.wast_meaning.specs.Mentions.{Mention, field_mentions}
use Rattle.wast_meaning.specs.Implied.{unnamed, plain_sig, written_types, sig_of_mention}
use Rattle.wast_implied.specs.Shapes.{Shape, same_shape, shape}

pub record Known : Type 0 where
  -- how many types there are, and the number of the first plain one of a shape
  pub types : Space Shape
  -- those of them that are implied, each with its place
  pub implied : List (ℕ × Sig Name ℕ)

abbrev pub nothing : Known
nothing = record { types = empty; implied = [] }

-- one more written type, which may stand in a group
abbrev pub after_written : Known → TypeItem Name ℕ × Bool → Known
after_written k t = record { types = grown same_shape k.types (option_map shape (plain_sig t)); implied = k.implied }

-- the signature of a use at a place is one more type where no plain type has it
abbrev pub unless_taken : Option ℕ → Known → ℕ × Sig Name ℕ → Known
unless_taken (Some n) k u = k
unless_taken None k u = record { types = grown same_shape k.types (Some (shape u.1)); implied = k.implied ++ (u.0, unnamed u.1) ∷ [] }

abbrev pub after_use : Known → ℕ × Sig Name ℕ → Known
after_use k u = unless_taken (k.types.look (shape u.1)) k u

abbrev pub after_sigs : ℕ → Known → List (Sig Name ℕ) → Known
after_sigs p k ss = reached after_use k (map (λ s. (p, s)) ss)

-- what the mentions in a field at a place use
abbrev pub after_mentions : ℕ → Known → List (Mention Name ℕ) → Known
after_mentions p k ms = after_sigs p k (flat_map sig_of_mention ms)

abbrev pub after_field : Known → Field Name ℕ → Known
after_field k f = after_mentions (field_place f) k (field_mentions f)

abbrev pub after_written_field : Known → Field Name ℕ → Known
after_written_field k f = reached after_written k (written_types f)

-- all written types, then all uses
abbrev pub gathered : List (Field Name ℕ) → Known
gathered fs = reached after_field (reached after_written_field nothing fs) fs
