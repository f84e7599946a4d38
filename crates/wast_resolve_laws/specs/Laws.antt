-- The statements of the crate's law functions.
use Rattle.std.specs.Prelude.{◌≡◌, ◌↔◌, ℕ, true, not, List, [], map, Some, None, option_map}
use Rattle.std.specs.List.{flat_map, list_all}
use std.Equiv.{Iso}
use Rattle.wasm_encoder_base.specs.Table.{Space}
use Rattle.wast_grammar.specs.Tokens.{Name}
use Rattle.wast_grammar.specs.Spelling.{same_name}
use Rattle.wast_names.specs.Walk.{reached, walked, threaded, first_unmet}
use Rattle.wast_names.specs.Demand.{is_met}
use Rattle.wast_names.specs.Space as names
use Rattle.wast_signatures.specs.TypeTree.{Sig}
use Rattle.wast_core_instr.specs.InstructionTree.{Instruction}
use Rattle.wast_field_syntax.specs.FieldTree.{Field}
use Rattle.wast_meaning.specs.Written.{written_out}
use Rattle.wast_meaning.specs.Spaces.{Bound, space_word, denotes, fields_at, items, items_in, ids_in}
use Rattle.wast_meaning.specs.Implied.{same_sig, same_written, implied, sig_at, type_taken}
use Rattle.wast_meaning.specs.Scope.{Scope, scope_of, scope_at, open_labels, labels_after}
use Rattle.wast_meaning.specs.Demands.{nearest, order_demand, order_demands, item_demand, spaces_after, item_demands, instrs_demands, demands, all_demands}
use Rattle.wast_meaning.specs.Changed.{instr_changed, instrs_changed}
use Rattle.wast_meaning.specs.Numbered.{numbering, expanded, numbered, resolved}
use Rattle.wast_meaning.specs.Fresh.{taken_from, is_fresh}
use Rattle.wast_meaning.specs.Settled.{are_settled, are_typed}
use Rattle.wast_resolve_laws.specs.Numbers.{are_numbers}
use Rattle.wast_resolve_laws.specs.Renamed.{fields_renamed, demand_renamed}
use Rattle.wast_resolve_laws.specs.Walks.{tested, own_demands, scope_among, demands_among}

-- FIELDS THAT HAVE THEIR TYPES, with the implied types behind them
-- A name means the same in each space,
abbrev pub SpacesKept : Type 0
SpacesKept = (fields : List (Field Name ℕ)) (space : Space) (name : Name) → denotes same_name (expanded same_name fields) space name ≡ denotes same_name fields space name

-- and so do names of fields of types, by the type's number.
abbrev pub FieldsKept : Type 0
FieldsKept = (fields : List (Field Name ℕ)) (number : ℕ) → fields_at (expanded same_name fields) number ≡ fields_at fields number

-- The function types are the same, by their numbers: what was implied is written.
abbrev pub SignaturesKept : Type 0
SignaturesKept = (fields : List (Field Name ℕ)) (number : ℕ) → sig_at same_name (expanded same_name fields) number ≡ sig_at same_name fields number

-- So all that is known outside of bodies is the same, how many items there are too,
abbrev pub ScopeKept : Type 0
ScopeKept = (fields : List (Field Name ℕ)) → scope_of same_name (expanded same_name fields) ≡ scope_of same_name fields

-- and no type is implied any more, since each use that needs a type has one.
pub record NothingImplied : Type 0 where
  pub nothing : (fields : List (Field Name ℕ)) → implied same_name (expanded same_name fields) ≡ []
  pub typed : (fields : List (Field Name ℕ)) → are_typed (expanded same_name fields) ≡ true

-- The type that a use takes is a function type, written as the use writes it.
abbrev pub TypesTaken : Type 0
TypesTaken = (fields : List (Field Name ℕ)) (signature : Sig Name ℕ) (number : ℕ) → type_taken same_name fields signature ≡ Some number
    → (other : Sig Name ℕ) × (sig_at same_name fields number ≡ Some other) × (same_sig (same_written same_name) signature other ≡ true)

-- The first demand that isn't met is the same: those that come with the types are met where the others are.
abbrev pub DemandsKept : Type 0
DemandsKept = (fields : List (Field Name ℕ)) → first_unmet is_met (demands same_name (expanded same_name fields)) ≡ first_unmet is_met (demands same_name fields)

-- FIELDS THAT ARE WRITTEN OUT
-- The function types are the same, by their numbers.
abbrev pub WrittenSignatures : Type 0
WrittenSignatures = (fields : List (Field Name ℕ)) (naming : ℕ → Name) (number : ℕ) → sig_at same_name (written_out naming fields) number ≡ sig_at same_name fields number

-- So are the names of the fields of a type, the types that uses imply, and the type that a use takes.
pub record WrittenTypes : Type 0 where
  pub field_names : (old : List (Field Name ℕ)) (naming : ℕ → Name) (number : ℕ) → fields_at (written_out naming old) number ≡ fields_at old number
  pub implied_types : (old : List (Field Name ℕ)) (naming : ℕ → Name) → implied same_name (written_out naming old) ≡ implied same_name old
  pub taken_types : (old : List (Field Name ℕ)) (naming : ℕ → Name) (signature : Sig Name ℕ) → type_taken same_name (written_out naming old) signature ≡ type_taken same_name old signature

-- A name means the same, unless it is one that is made.
abbrev pub WrittenNames : Type 0
WrittenNames = (fields : List (Field Name ℕ)) (naming : ℕ → Name) (space : Space) (name : Name) → list_all (λ made. not (same_name made name)) (taken_from naming 0 fields) ≡ true
    → denotes same_name (written_out naming fields) space name ≡ denotes same_name fields space name

-- Where the names that are made are fresh, the first demand that isn't met is the same.
abbrev pub WrittenDemands : Type 0
WrittenDemands = (fields : List (Field Name ℕ)) (naming : ℕ → Name) → is_fresh same_name naming fields ≡ true
    → first_unmet is_met (all_demands same_name naming fields) ≡ first_unmet is_met (demands same_name fields)

-- So it is the same whichever fresh names are made.
abbrev pub NamingsAlike : Type 0
NamingsAlike = (fields : List (Field Name ℕ)) (first second : ℕ → Name) → is_fresh same_name first fields ≡ true → is_fresh same_name second fields ≡ true
    → first_unmet is_met (all_demands same_name first fields) ≡ first_unmet is_met (all_demands same_name second fields)

-- RESOLVED FIELDS: written out, with their types and the implied ones, all indices numbers
-- Where fields keep to all demands, what they are resolved to does, however it is named,
abbrev pub ResolvedMet : Type 0
ResolvedMet = (fields : List (Field Name ℕ)) (naming other : ℕ → Name) → first_unmet is_met (all_demands same_name naming fields) ≡ None
    → first_unmet is_met (all_demands same_name other (resolved same_name naming fields)) ≡ None

-- each use of it has its type and each index is a number,
abbrev pub ResolvedSettled : Type 0
ResolvedSettled = (fields : List (Field Name ℕ)) (naming : ℕ → Name) → first_unmet is_met (all_demands same_name naming fields) ≡ None
    → are_settled (resolved same_name naming fields) ≡ true

-- and it is resolved to itself.
abbrev pub ResolvedAgain : Type 0
ResolvedAgain = (fields : List (Field Name ℕ)) (naming other : ℕ → Name) → first_unmet is_met (all_demands same_name naming fields) ≡ None
    → resolved same_name other (resolved same_name naming fields) ≡ resolved same_name naming fields

-- FIELDS THAT ARE NUMBERED, all demands of which are met
-- Each index is a number,
pub record NumberedSettled : Type 0 where
  pub numbers : (fields : List (Field Name ℕ)) → first_unmet is_met (demands same_name fields) ≡ None → are_numbers (numbered same_name fields) ≡ true
  -- and where uses have their types, each has its number.
  pub settled : (fields : List (Field Name ℕ)) → first_unmet is_met (demands same_name fields) ≡ None → are_typed fields ≡ true → are_settled (numbered same_name fields) ≡ true

-- FIELDS THAT ARE RENAMED: each name and each place has its counterpart, one to one
-- Their demands are those of the fields, renamed,
pub record RenamedDemands : Type 0 where
  pub asked : (renaming : Iso Name Name) (moving : Iso ℕ ℕ) (fields : List (Field Name ℕ))
      → demands same_name (fields_renamed renaming moving fields) ≡ map (demand_renamed renaming.fun moving.fun) (demands same_name fields)
  pub asked_of_all : (renaming : Iso Name Name) (moving : Iso ℕ ℕ) (fields : List (Field Name ℕ)) (naming : ℕ → Name)
      → all_demands same_name (λ n. renaming.fun (naming n)) (fields_renamed renaming moving fields) ≡ map (demand_renamed renaming.fun moving.fun) (all_demands same_name naming fields)
  -- so the same are met
  pub met : (renaming : Iso Name Name) (moving : Iso ℕ ℕ) (fields : List (Field Name ℕ)) → map is_met (demands same_name (fields_renamed renaming moving fields)) ≡ map is_met (demands same_name fields)
  -- and the first that isn't is its counterpart, whichever fresh names are made for the fields and for the renamed ones.
  pub first : (renaming : Iso Name Name) (moving : Iso ℕ ℕ) (fields : List (Field Name ℕ)) (naming other : ℕ → Name)
      → is_fresh same_name naming fields ≡ true → is_fresh same_name other (fields_renamed renaming moving fields) ≡ true
      → first_unmet is_met (all_demands same_name other (fields_renamed renaming moving fields)) ≡ option_map (demand_renamed renaming.fun moving.fun) (first_unmet is_met (all_demands same_name naming fields))

-- and the numbers are the same: a name means what its counterpart means, and numbered fields are renamed as they are.
pub record RenamedNumbers : Type 0 where
  pub number : (renaming : Iso Name Name) (moving : Iso ℕ ℕ) (fields : List (Field Name ℕ)) (space : Space) (name : Name)
      → denotes same_name (fields_renamed renaming moving fields) space (renaming.fun name) ≡ denotes same_name fields space name
  pub numbers : (renaming : Iso Name Name) (moving : Iso ℕ ℕ) (fields : List (Field Name ℕ))
      → numbered same_name (fields_renamed renaming moving fields) ≡ fields_renamed renaming moving (numbered same_name fields)
  pub all_numbers : (renaming : Iso Name Name) (moving : Iso ℕ ℕ) (fields : List (Field Name ℕ)) (naming : ℕ → Name)
      → resolved same_name (λ n. renaming.fun (naming n)) (fields_renamed renaming moving fields) ≡ fields_renamed renaming moving (resolved same_name naming fields)

-- WALKS IN TWO ORDERS
-- One walk over all items gives each space what a walk over its own items gives it, and has all demands met where those have.
pub record SpacesApart : Type 0 where
  pub space : (fields : List (Field Name ℕ)) (space : Space)
      → reached (spaces_after same_name) (λ s. names.empty) (flat_map items fields) space ≡ names.space_of same_name (space_word space) (ids_in space fields)
  pub met : (fields : List (Field Name ℕ))
      → (first_unmet is_met (item_demands same_name (flat_map items fields)) ≡ None) ↔ ((space : Space) → first_unmet is_met (own_demands same_name space (items_in space fields)) ≡ None)

-- So it doesn't matter how fields of different spaces follow each other.
pub record OrdersAgree : Type 0 where
  pub number : (first second : List (Field Name ℕ)) → ((space : Space) → items_in space first ≡ items_in space second)
      → (space : Space) (name : Name) → denotes same_name first space name ≡ denotes same_name second space name
  pub met : (first second : List (Field Name ℕ)) → ((space : Space) → items_in space first ≡ items_in space second)
      → (first_unmet is_met (item_demands same_name (flat_map items first)) ≡ None) ↔ (first_unmet is_met (item_demands same_name (flat_map items second)) ≡ None)

-- Labels that are counted back from each instruction are those that are handed on from one to the next.
pub record LabelsHandedOn : Type 0 where
  pub asked : (scope : Scope Name ℕ) (before body : List (Instruction Name ℕ))
      → instrs_demands same_name scope before body ≡ walked (demands_among same_name scope) labels_after (open_labels before) body
  pub numbers : (scope : Scope Name ℕ) (before body : List (Instruction Name ℕ))
      → instrs_changed (λ earlier i. numbering (scope_at same_name scope earlier i)) before body ≡ threaded (λ labels i. instr_changed (numbering (scope_among same_name scope labels i)) i) labels_after (open_labels before) body

-- The first demand that isn't met is met with on the way, element by element.
pub record TestedOnTheWay : Type 0 where
  pub order : (fields : List (Field Name ℕ)) → first_unmet is_met (order_demands fields) ≡ tested (λ before field. first_unmet is_met (order_demand before field)) nearest None fields
  pub bounds : (bounds : List (Bound Name ℕ))
      → first_unmet is_met (item_demands same_name bounds) ≡ tested (λ spaces b. first_unmet is_met (item_demand same_name spaces b)) (spaces_after same_name) (λ s. names.empty) bounds
  pub instructions : (scope : Scope Name ℕ) (body : List (Instruction Name ℕ))
      → first_unmet is_met (instrs_demands same_name scope [] body) ≡ tested (λ labels i. first_unmet is_met (demands_among same_name scope labels i)) labels_after [] body
