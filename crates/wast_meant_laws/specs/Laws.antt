-- The statements of the crate's law functions.
use Rattle.std.specs.Prelude.{◌≡◌, ◌↔◌, ◌+◌, ℕ, Bool, List, [], map, length, filter, Option, None, option_map}
use Rattle.std.specs.List.{flat_map}
use std.Equiv.{Iso}
use Rattle.wast_grammar.specs.Tokens.{Name}
use Rattle.wast_grammar.specs.Spelling.{same_name}
use Rattle.wast_grammar.specs.Alike.{Matched, Carries}
use Rattle.wast_field_syntax.specs.FieldTree.{Field, Module}
use Rattle.wast_meaning.specs.WellFormed.{breaches}
use Rattle.wast_meaning.specs.Modules.{content_fields}
use Rattle.wasm_layout.specs.AbstractModule.{AbstractModule}
use Rattle.wasm_layout.specs.Section.{order}
use Rattle.wasm_layout.specs.Present.{is_present}
use Rattle.wasm_layout.specs.Layout.{section, pieces, layout}
use Rattle.wasm_layout.specs.Lays.{bare}
use Rattle.wast_resolve_laws.specs.Renamed.{fields_renamed}
use Rattle.wast_meant.specs.NamesMeant.{GivenName}
use Rattle.wast_meant.specs.CustomsMeant.{customs_in, at_place, stops}
use Rattle.wast_meant.specs.Covered.{uncovered}
use Rattle.wast_meant.specs.Meaning.{meant, Meaning}
use Rattle.wast_meant.specs.Binary.{module_with, in_bytes}
use Rattle.wast_meaning.specs.Made.{is_made}
use Rattle.wast_meant.specs.Means.{naming_of}
use Rattle.wast_meant_laws.specs.Renamed.{Renaming, MadeStay, AreRead, renamed_by, tree_renamed, given_renamed, form_moved}
use Rattle.wast_meant_laws.specs.Stops.{stop_pieces, is_unnamed}

-- RENAMINGS: names that are read, and places, in pairs of which the first are equal exactly where the second are, are carried from first to
-- second by a renaming in which the names that are made stay.
abbrev pub RenamingsCarry : Type 0
RenamingsCarry = (names : List (Name × Name)) (places : List (ℕ × ℕ)) → AreRead names → Matched names → Matched places
    → (r : Renaming) × MadeStay r × Carries r.names.fun names × Carries r.places.fun places

-- RENAMED FIELDS
pub record RenamedConditions : Type 0 where
  -- They have the breaches of the fields, at the counterparts of their places, so they have none where these have none;
  pub places : (r : Renaming) (fields : List (Field Name ℕ)) → breaches same_name is_made (renamed_by r fields) ≡ map r.places.fun (breaches same_name is_made fields)
  pub formed : (r : Renaming) (fields : List (Field Name ℕ)) → (breaches same_name is_made (renamed_by r fields) ≡ []) ↔ (breaches same_name is_made fields ≡ [])
  -- and the first form that isn't covered, in the same way.
  pub form : (r : Renaming) (fields : List (Field Name ℕ)) (naming : ℕ → Name)
      → uncovered (λ n. r.names.fun (naming n)) (renamed_by r fields) ≡ option_map (form_moved r.places.fun) (uncovered naming fields)
  pub covered : (r : Renaming) (fields : List (Field Name ℕ)) (naming : ℕ → Name)
      → (uncovered (λ n. r.names.fun (naming n)) (renamed_by r fields) ≡ None) ↔ (uncovered naming fields ≡ None)
  -- A tree that is renamed has the fields of the tree, renamed, and the names that are made for it are those that are made for the tree.
  pub content : (r : Renaming) (t : Module Name ℕ) → content_fields (tree_renamed r t).content ≡ renamed_by r (content_fields t.content)
  pub named : (r : Renaming) → MadeStay r → (t : Module Name ℕ) → naming_of (tree_renamed r t) ≡ (λ n. r.names.fun (naming_of t n))

-- They stand for the module of the fields, with its names renamed.
pub record RenamedMeaning : Type 0 where
  pub module_meant : (r : Renaming) (name : Option (GivenName Name)) (fields : List (Field Name ℕ))
      → meant same_name is_made (option_map (given_renamed r.names.fun) name) (renamed_by r fields) ≡ module_with (given_renamed r.names.fun) (meant same_name is_made name fields)
  -- So does a tree, where the names that are made stay: it stands for a module exactly where the tree that is renamed stands for that with
  -- its names renamed,
  pub tree : (r : Renaming) → MadeStay r → (t : Module Name ℕ) (m : AbstractModule (GivenName Name))
      → Meaning same_name is_made (naming_of (tree_renamed r t)) (tree_renamed r t) (module_with (given_renamed r.names.fun) m) ↔ Meaning same_name is_made (naming_of t) t m
  -- and that stands for no other.
  pub only : (r : Renaming) → MadeStay r → (t : Module Name ℕ) (n : AbstractModule (GivenName Name))
      → Meaning same_name is_made (naming_of (tree_renamed r t)) (tree_renamed r t) n
      → (m : AbstractModule (GivenName Name)) × Meaning same_name is_made (naming_of t) t m × (n ≡ module_with (given_renamed r.names.fun) m)

-- NAMES APART
-- the module that fields stand for, in which names are bytes, given the module's name and which names are made up
abbrev pub meant_in_bytes : (Name → Bool) → Option (GivenName Name) → List (Field Name ℕ) → AbstractModule (List ℕ)
meant_in_bytes new name fields = in_bytes (meant same_name new name fields)

-- Without names it is the same for any name of the module, and whichever names are made up.
pub record NamesApart : Type 0 where
  pub module_meant : (new other : Name → Bool) (name second : Option (GivenName Name)) (fields : List (Field Name ℕ))
      → bare (meant same_name other second fields) ≡ bare (meant same_name new name fields)
  pub binary_meant : (new other : Name → Bool) (name second : Option (GivenName Name)) (fields : List (Field Name ℕ))
      → bare (meant_in_bytes other second fields) ≡ bare (meant_in_bytes new name fields)
  -- Its pieces are those of the module but for the section of names.
  pub pieces_left : (new : Name → Bool) (name : Option (GivenName Name)) (fields : List (Field Name ℕ))
      → pieces (bare (meant_in_bytes new name fields)) ≡ filter is_unnamed (pieces (meant_in_bytes new name fields))

-- So fields that are renamed stand for the same module without names, and have the same binary without the section of names.
pub record RenamedBinary : Type 0 where
  pub module_meant : (renaming : Iso Name Name) (moving : Iso ℕ ℕ) (new other : Name → Bool) (name second : Option (GivenName Name)) (fields : List (Field Name ℕ))
      → bare (meant_in_bytes other second (fields_renamed renaming moving fields)) ≡ bare (meant_in_bytes new name fields)
  pub bytes : (renaming : Iso Name Name) (moving : Iso ℕ ℕ) (new other : Name → Bool) (name second : Option (GivenName Name)) (fields : List (Field Name ℕ))
      → layout (bare (meant_in_bytes other second (fields_renamed renaming moving fields))) ≡ layout (bare (meant_in_bytes new name fields))
  -- and so have trees
  pub tree : (r : Renaming) → MadeStay r → (t : Module Name ℕ) (m n : AbstractModule (GivenName Name))
      → Meaning same_name is_made (naming_of t) t m → Meaning same_name is_made (naming_of (tree_renamed r t)) (tree_renamed r t) n
      → (bare (in_bytes n) ≡ bare (in_bytes m)) × (layout (bare (in_bytes n)) ≡ layout (bare (in_bytes m)))

-- STOP BY STOP
-- The pieces of a module that fields stand for are, at each place, its custom sections in the order of their fields, and between the places
-- the sections that are there; the gaps are one more than the sections.
pub record AtStops : Type 0 where
  pub laid_out : (new : Name → Bool) (name : Option (GivenName Name)) (fields : List (Field Name ℕ))
      → pieces (meant_in_bytes new name fields)
      ≡ flat_map (stop_pieces (at_place (flat_map customs_in fields)) (is_present (meant_in_bytes new name fields)) (section (meant_in_bytes new name fields))) stops
  pub gaps : (new : Name → Bool) (name : Option (GivenName Name)) (fields : List (Field Name ℕ))
      → length (meant_in_bytes new name fields).customs ≡ length (filter (is_present (meant_in_bytes new name fields)) order) + 1
