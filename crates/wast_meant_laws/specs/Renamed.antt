-- Renamings of fields, and of the names of maps.
use Rattle.std.specs.Prelude.{◌≡◌, ℕ, List, [], ◌∷◌}
use std.Equiv.{Iso}
use Rattle.wast_grammar.specs.Tokens.{Name}
use Rattle.wast_field_syntax.specs.FieldTree.{Field, Module}
use Rattle.wast_meaning.specs.Made.{made, is_made}
use Rattle.wast_resolve_laws.specs.Renamed.{renamed, fields_renamed}
use Rattle.wast_conversions.specs.Covered.{Form}
use Rattle.wast_meant.specs.NamesMeant.{GivenName, Identifier, Bytes}

-- Each name and each place has its counterpart, one to one, and a name is made up where its counterpart is.
pub record Renaming : Type 0 where
  pub names : Iso Name Name
  pub places : Iso ℕ ℕ
  pub keeps_made : (n : Name) → is_made (names.fun n) ≡ is_made n

-- the names that a counter makes stay
abbrev pub MadeStay : Renaming → Type 0
MadeStay r = (n : ℕ) → r.names.fun (made n) ≡ made n

-- pairs of names that are read, so they have the generation 0
abbrev pub AreRead : List (Name × Name) → Type 0
AreRead [] = Unit {0}
AreRead (p ∷ ps) = (p.0.1 ≡ 0) × (p.1.1 ≡ 0) × AreRead ps

-- fields and trees
abbrev pub renamed_by : Renaming → List (Field Name ℕ) → List (Field Name ℕ)
renamed_by r fields = fields_renamed r.names r.places fields

abbrev pub tree_renamed : Renaming → Module Name ℕ → Module Name ℕ
tree_renamed r t = renamed Module r.names r.places t

-- the name of a map; bytes that `@name` gives stay
abbrev pub given_renamed : {N M : Type 0} → (N → M) → GivenName N → GivenName M
given_renamed f (Identifier n) = Identifier (f n)
given_renamed f (Bytes bytes) = Bytes bytes

-- a form and where it stands
abbrev pub form_moved : {P Q : Type 0} → (P → Q) → P × Form → Q × Form
form_moved g found = (g found.0, found.1)
