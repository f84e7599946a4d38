-- The statements of the crate's law functions.
use Rattle.std.specs.Prelude.{◌≡◌, ◌≤◌, ℕ, true, List}
use Rattle.std.specs.List.{flat_map, All}
use Rattle.wast_grammar.specs.Tokens.{Name}
use Rattle.wast_grammar.specs.Spelling.{same_name}
use Rattle.wast_module_fields.specs.FieldTree.{Field}
use Rattle.wast_meaning.specs.Written.{by_counter, written_out}
use Rattle.wast_meaning.specs.Fresh.{field_names, is_fresh}
use Rattle.wast_meaning.specs.Made.{made}

-- The names that a counter makes are fresh, where no name of the fields has a generation above its count.
abbrev pub FreshNames : Type 0
FreshNames = (count : ℕ) (fields : List (Field Name ℕ)) → All (λ name. name.1 ≤ count) (flat_map field_names fields)
    → is_fresh same_name (by_counter made count fields) fields ≡ true

-- A list and what it is written out as are written out alike, whatever the names.
abbrev pub WrittenAgain : Type 0
WrittenAgain = (first naming : ℕ → Name) (fields : List (Field Name ℕ)) → written_out naming (written_out first fields) ≡ written_out first fields
