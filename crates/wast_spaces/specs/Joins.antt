-- What a call leaves that adds items to index spaces.
use Rattle.std.specs.Prelude.{◌≡◌, ℕ, List, ◌++◌, map, filter, Result, Ok, Err, None}
use Rattle.wasm_encoder_base.specs.Table as table
use Rattle.wast_grammar.specs.Tokens.{Name}
use Rattle.wast_grammar.specs.Spelling.{same_name}
use Rattle.wast_parser.specs.Problem.{Problem}
use Rattle.wast_names.specs.Walk.{reached, walked, first_unmet}
use Rattle.wast_names.specs.Demand.{Demand, is_met, Refuses}
use Rattle.wast_names.specs.Space as names
use Rattle.wast_meaning.specs.Spaces.{Bound, same_space, space_word}
use Rattle.wast_meaning.specs.Demands.{item_demand, spaces_after}
use Rattle.wast_spaces.specs.declared.spaces.Spaces.{Spaces}
use Rattle.wast_spaces.specs.Views.{spaces_of, fields_of_types}

-- the index spaces of the fields of each type among items
abbrev pub type_fields : List (Bound Name ℕ) → List (names.Space Name)
type_fields bs = map (λ b. names.space_of same_name (space_word table.Fields) b.fields) (filter (λ b. same_space table.Types b.space) bs)

-- the index spaces behind items
abbrev pub spaces_behind : (table.Space → names.Space Name) → List (Bound Name ℕ) → table.Space → names.Space Name
spaces_behind spaces bs = reached (spaces_after same_name) spaces bs

-- what items have to keep to, that join these spaces
abbrev pub joining : (table.Space → names.Space Name) → List (Bound Name ℕ) → List (Demand Name ℕ)
joining spaces bs = walked (item_demand same_name) (spaces_after same_name) spaces bs

-- The items have joined their spaces.
pub record Joined (old new : Spaces) (bs : List (Bound Name ℕ)) : Type 0 where
  pub met : first_unmet is_met (joining (spaces_of old) bs) ≡ None
  pub spaces : spaces_of new ≡ spaces_behind (spaces_of old) bs
  pub fields : fields_of_types new ≡ fields_of_types old ++ type_fields bs

-- They have, or the first demand of theirs that isn't met is told, or there was no memory.
abbrev pub Joins : {T : Type 0} → Result T Problem → Spaces → Spaces → List (Bound Name ℕ) → Type 0
Joins (Ok x) old new bs = Joined old new bs
Joins (Err p) old new bs = Refuses (joining (spaces_of old) bs) p
