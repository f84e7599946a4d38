-- The statements of the crate's law functions.
use Rattle.std.specs.Prelude.{◌≡◌, ◌↔◌, ℕ, true, false, is_some, List, ◌∷◌, ◌++◌, length, map, Option, Some, None}
use Rattle.wast_parser.specs.Tokens.{Name}
use Rattle.wast_parser.specs.Spelling.{same_name}
use Rattle.wast_parser.specs.Identifiers.{Named}
use Rattle.wast_names.specs.Walk.{first_unmet}
use Rattle.wast_names.specs.Position.{position, last_position}
use Rattle.wast_names.specs.Demand.{Demand, Duplicate, is_met}
use Rattle.wast_names.specs.Space.{last_counts, denoted, name_in, space_of, distinct}

-- The identifiers of items, some of which have none.
abbrev pub Items : Type 0
Items = List (Option (Named Name ℕ))

-- The space of a list of items numbers their names by their places.
pub record Numbers : Type 0 where
  pub count : (kind : List ℕ) (items : Items) → (space_of same_name kind items).count ≡ length items
  pub look : (kind : List ℕ) (items : Items) (n : Name) → (space_of same_name kind items).look n ≡ denoted same_name kind n (map name_in items)

-- No item bears the name of one before it.
abbrev pub IsDistinct : Items → Type 0
IsDistinct items = (before : Items) (id : Named Name ℕ) (behind : Items) → items ≡ before ++ Some id ∷ behind → position same_name id.0 (map name_in before) ≡ None

-- It is the first that bears the name of one before it.
pub record IsFirstDuplicate (items : Items) (id : Named Name ℕ) : Type 0 where
  pub before : Items
  pub behind : Items
  pub parts : items ≡ before ++ Some id ∷ behind
  pub distinct : IsDistinct before
  pub taken : is_some (position same_name id.0 (map name_in before)) ≡ true

-- Where the last doesn't count, all are accepted exactly where no two bear one name; else the first duplicate is refused, and that alone.
pub record Distinct : Type 0 where
  pub accepted : (kind : List ℕ) (items : Items) → last_counts kind ≡ false → (first_unmet is_met (distinct same_name kind items) ≡ None) ↔ IsDistinct items
  pub refused : (kind : List ℕ) (items : Items) (d : Demand Name ℕ) → last_counts kind ≡ false → first_unmet is_met (distinct same_name kind items) ≡ Some d
      → (id : Named Name ℕ) × IsFirstDuplicate items id × (d ≡ record { place = id.1; complaint = Duplicate kind; holds = false })
  pub refuses : (kind : List ℕ) (items : Items) (id : Named Name ℕ) → last_counts kind ≡ false → IsFirstDuplicate items id
      → first_unmet is_met (distinct same_name kind items) ≡ Some (record { place = id.1; complaint = Duplicate kind; holds = false })

-- Where no two items bear one name, the first that bears a name is the last.
abbrev pub OnePlace : Type 0
OnePlace = (items : Items) (n : Name) → IsDistinct items → last_position same_name n (map name_in items) ≡ position same_name n (map name_in items)
