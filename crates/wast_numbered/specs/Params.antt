-- How many parameters types have.
use Rattle.std.specs.Prelude.{ℕ, List, ◌++◌, length, map}
use Rattle.std.specs.List.{flat_map}
use Rattle.wast_grammar.specs.Tokens.{Name}
use Rattle.wast_signatures.specs.TypeTree.{Sig}
use Rattle.wast_module_fields.specs.FieldTree.{Field}
use Rattle.wast_meaning.specs.Implied.{written_types}
use Rattle.wast_spaces.specs.Params.{param_count}

-- of a type that uses imply
abbrev pub implied_count : ℕ × Sig Name ℕ → ℕ
implied_count t = length t.1.params

-- by their numbers: the types that fields write, then those that uses imply
abbrev pub param_counts : List (Field Name ℕ) → List (ℕ × Sig Name ℕ) → List ℕ
param_counts fs implied = map param_count (flat_map written_types fs) ++ map implied_count implied
