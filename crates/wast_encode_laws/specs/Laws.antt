-- The statements of the crate's law functions.
use Rattle.std.specs.Prelude.{◌≡◌, ◌≤◌, ℕ, Bool, true, List, [], length, map, replicate, All, Option, Some, None, option_map, ◌++◌}
use Rattle.std.specs.List.{flat_map, sum_by, AllByRecursion}
use Rattle.wast_grammar.specs.Tokens.{Name}
use Rattle.wast_grammar.specs.Spelling.{same_name}
use Rattle.wast_names.specs.Walk.{first_unmet}
use Rattle.wast_names.specs.Demand.{is_met}
use Rattle.wast_module_fields.specs.FieldTree.{Field}
use Rattle.wast_module_fields.specs.ModuleFieldViews.{field_tree}
use Rattle.wast_module_fields.specs.declared.field.ModuleField.{ModuleField}
use Rattle.wast_meaning.specs.Demands.{all_demands}
use Rattle.wast_meaning.specs.Numbered.{resolved}
use Rattle.wast_meaning.specs.WellFormed.{breaches}
use Rattle.wasm_layout.specs.IsModule.{Rise, AreNames, AreHints}
use Rattle.wasm_layout.specs.Layout.{functions_in}
use Rattle.wast_meant.specs.Covered.{field_forms, uncovered}
use Rattle.wast_meant.specs.FieldsMeant.{imports_of, defined_in, function_of, functions_of, starts_of}
use Rattle.wast_meant.specs.NamesMeant.{GivenName, bodies_in}
use Rattle.wast_meant.specs.Meaning.{meant}
use Rattle.wast_encode_laws.specs.Bounds.{BodiesFit, NamesFit}
use Rattle.wast_encode_laws.specs.Formed.{FieldFormed}
use Rattle.wast_encode_laws.specs.Orderings.{are_ordered}
use Rattle.wast_encode_laws.specs.Ready.{FieldResolved}

-- Where fields keep to all demands on names, what they are resolved to has nothing inline, numbers for indices that are encoded, and types for
-- uses.
abbrev pub ReadyWhenResolved : Type 0
ReadyWhenResolved = (fields : List (Field Name ℕ)) (naming : ℕ → Name) → first_unmet is_met (all_demands same_name naming fields) ≡ None
    → All FieldResolved (resolved same_name naming fields)

-- What isn't covered is told once more of what fields are resolved to: the first form, with its place,
abbrev pub UncoveredAgain : Type 0
UncoveredAgain = (fields : List (Field Name ℕ)) (naming other : ℕ → Name) → are_ordered fields ≡ true
    → uncovered other (resolved same_name naming fields) ≡ uncovered naming fields

-- so where fields are covered, each of these is.
abbrev pub CoveredWhenResolved : Type 0
CoveredWhenResolved = (fields : List (Field Name ℕ)) (naming : ℕ → Name) → are_ordered fields ≡ true → uncovered naming fields ≡ None
    → All (λ f. field_forms f ≡ []) (resolved same_name naming fields)

-- In the trees of the code's fields, indices alone stand behind orderings.
abbrev pub TreesOrdered : Type 0
TreesOrdered = (fields : List ModuleField) → are_ordered (map field_tree fields) ≡ true

-- Where fields are well formed, each of these is, beside names, whatever names are taken for made, and one is the start at most.
pub record FormedWhenResolved : Type 0 where
  pub formed : (fields : List (Field Name ℕ)) (is_made : Name → Bool) (naming : ℕ → Name) → breaches same_name is_made fields ≡ []
      → All FieldFormed (resolved same_name naming fields)
  pub start : (fields : List (Field Name ℕ)) (is_made : Name → Bool) (naming : ℕ → Name) → breaches same_name is_made fields ≡ []
      → length (flat_map starts_of (resolved same_name naming fields)) ≤ 1

-- THE MODULE MEANT by resolved fields
-- Imports stand first: the functions of the index space are those that are imported, without a body here, then those that are defined.
abbrev pub FunctionsPlaced : Type 0
FunctionsPlaced = (fields : List (Field Name ℕ)) (naming : ℕ → Name) → first_unmet is_met (all_demands same_name naming fields) ≡ None
    → map (option_map function_of) (flat_map bodies_in (resolved same_name naming fields))
    ≡ replicate (sum_by functions_in (flat_map imports_of (resolved same_name naming fields))) None
    ++ map (λ f. Some f) (flat_map functions_of (flat_map defined_in (resolved same_name naming fields)))

-- As far as functions, instructions and names may be so many, its branch hints stand on instructions of its functions, and rise,
pub record MeantHintsFit : Type 0 where
  pub hints : (fields : List (Field Name ℕ)) (is_made : Name → Bool) (naming : ℕ → Name) (name : Option (GivenName Name)) → first_unmet is_met (all_demands same_name naming fields) ≡ None
      → breaches same_name is_made fields ≡ [] → BodiesFit (resolved same_name naming fields)
      → AllByRecursion (AreHints (meant same_name is_made name (resolved same_name naming fields))) (meant same_name is_made name (resolved same_name naming fields)).hints
  pub functions : (fields : List (Field Name ℕ)) (is_made : Name → Bool) (name : Option (GivenName Name)) → BodiesFit fields
      → Rise 0 (map (λ g. g.function) (meant same_name is_made name fields).hints)

-- and the indices of its name maps rise.
abbrev pub MeantNamesFit : Type 0
MeantNamesFit = (fields : List (Field Name ℕ)) (is_made : Name → Bool) (name : Option (GivenName Name)) → NamesFit same_name is_made fields
    → AreNames (meant same_name is_made name fields).names
