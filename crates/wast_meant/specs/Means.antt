-- What a text is worth, given which trees it spells: the module that its tree stands for, in which identifiers are bytes; or, of a binary in
-- pieces, these.
use Rattle.std.specs.Prelude.{ℕ, ◌≡◌, List}
use Rattle.std.specs.List.{flat_map}
use Rattle.wast_grammar.specs.Tokens.{Name}
use Rattle.wast_grammar.specs.Spelling.{same_name}
use Rattle.wast_field_syntax.specs.FieldTree as fields
use Rattle.wast_field_syntax.specs.FieldTree.{Field, Module}
use Rattle.wast_meaning.specs.Modules.{content_fields}
use Rattle.wast_meaning.specs.Written.{by_counter}
use Rattle.wast_meaning.specs.Made.{made, is_made}
use Rattle.wasm_layout.specs.AbstractModule.{AbstractModule}
use Rattle.wast_meant.specs.NamesMeant.{GivenName}
use Rattle.wast_meant.specs.Meaning.{Meaning}
use Rattle.wast_meant.specs.Binary.{in_bytes}

-- The names that are made for fields: a new counter makes them, one for each that takes one, in order. No name that is read is such a name.
abbrev pub naming : {P : Type 0} → List (Field Name P) → ℕ → Name
naming fs = by_counter made 0 fs

-- those for a tree
abbrev pub naming_of : Module Name ℕ → ℕ → Name
naming_of t = naming (content_fields t.content)

-- the text spells a tree, and that stands for m
pub record Means {T : Type 0} (Spells : T → Module Name ℕ → Type 0) (text : T) (m : AbstractModule (List ℕ)) : Type 0 where
  pub tree : Module Name ℕ
  pub spelled : Spells text tree
  pub module_meant : AbstractModule (GivenName Name)
  pub is_meant : Meaning same_name is_made (naming_of tree) tree module_meant
  pub named : m ≡ in_bytes module_meant

-- the text spells a binary in pieces, which these are when they are joined
pub record SpellsPieces {T : Type 0} (Spells : T → Module Name ℕ → Type 0) (text : T) (bytes : List ℕ) : Type 0 where
  pub tree : Module Name ℕ
  pub spelled : Spells text tree
  pub pieces : List (List ℕ)
  pub are_content : tree.content ≡ fields.Pieces pieces
  pub joined : bytes ≡ flat_map (λ piece. piece) pieces

pub data Worth : Type 0 where
  Stands : AbstractModule (List ℕ) → Worth
  Pieces : List ℕ → Worth

abbrev pub IsWorth : {T : Type 0} → (T → Module Name ℕ → Type 0) → T → Worth → Type 0
IsWorth Spells text (Stands m) = Means Spells text m
IsWorth Spells text (Pieces bytes) = SpellsPieces Spells text bytes
