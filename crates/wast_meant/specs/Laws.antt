-- The statements of the crate's law functions.
use Rattle.std.specs.Prelude.{ℕ, ◌≡◌, List}
use Rattle.wast_grammar.specs.Tokens.{Name}
use Rattle.wast_grammar.specs.Spelling.{same_name}
use Rattle.wast_field_syntax.specs.FieldTree.{Module}
use Rattle.wasm_layout.specs.AbstractModule.{AbstractModule}
use Rattle.wast_meant.specs.NamesMeant.{GivenName}
use Rattle.wast_meant.specs.Meaning.{Meaning}
use Rattle.wast_meaning.specs.Made.{is_made}
use Rattle.wast_meant.specs.Means.{Means, Worth, IsWorth}

-- A tree stands for one module at most.
abbrev pub OneMeaning : Type 0
OneMeaning = (naming : ℕ → Name) (t : Module Name ℕ) (m n : AbstractModule (GivenName Name)) → Meaning same_name is_made naming t m → Meaning same_name is_made naming t n → m ≡ n

-- Where a text spells one tree at most, it means one module at most,
abbrev pub OneTree : (List ℕ → Module Name ℕ → Type 0) → Type 0
OneTree Spells = (text : List ℕ) (t u : Module Name ℕ) → Spells text t → Spells text u → t ≡ u

abbrev pub OneModule : (List ℕ → Module Name ℕ → Type 0) → Type 0
OneModule Spells = (text : List ℕ) (m n : AbstractModule (List ℕ)) → Means Spells text m → Means Spells text n → m ≡ n

-- and is worth one thing at most: a module, or the pieces of a binary.
abbrev pub OneWorth : (List ℕ → Module Name ℕ → Type 0) → Type 0
OneWorth Spells = (text : List ℕ) (v w : Worth) → IsWorth Spells text v → IsWorth Spells text w → v ≡ w
