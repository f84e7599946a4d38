-- How many there may be of what stands in name maps and branch hints, whose indices have 32 bits (WebAssembly 3.0, 5.2.2, and appendix, Name
-- Section).
use Rattle.std.specs.Prelude.{◌≤◌, ◌^◌, Bool, List, length, map, All, Option, Some, None}
use Rattle.std.specs.List.{flat_map}
use Rattle.wasm_encoder_base.specs.Table as text
use Rattle.wasm_encoder_custom.specs.Names as binary
use Rattle.wast_module_fields.specs.FieldTree.{Function, Field}
use Rattle.wast_meaning.specs.Spaces.{items_in}
use Rattle.wast_meaning.specs.Implied.{written_types, func_sig}
use Rattle.wast_meaning.specs.Scope.{scope_of}
use Rattle.wast_meant.specs.NamesMeant.{GivenName, space_of, bodies_in, tags_in, identifier, names_of_locals, names_of_labels, param_names}

-- FUNCTIONS of the index space, and instructions of a body
abbrev pub BodyFits : {N P : Type 0} → Option (Function N P) → Type 0
BodyFits None = Unit {0}
BodyFits (Some f) = length f.body.instrs ≤ 2 ^ 32

pub record BodiesFit {N P : Type 0} (fs : List (Field N P)) : Type 0 where
  pub count : length (flat_map bodies_in fs) ≤ 2 ^ 32
  pub each : All BodyFits (flat_map bodies_in fs)

-- NAMES: items, and what is inside them
module _ {N P : Type 0} (eq : N → N → Bool) (is_made : N → Bool) (fs : List (Field N P)) where
  abbrev pub inner_lists : binary.InnerSpace → List (List (Option (GivenName N)))
  inner_lists binary.Locals = map (names_of_locals is_made (scope_of eq fs)) (flat_map bodies_in fs)
  inner_lists binary.Labels = map (names_of_labels is_made) (flat_map bodies_in fs)
  inner_lists binary.Fields = map (λ b. map (identifier is_made) b.fields) (items_in text.Types fs)
  inner_lists binary.Parameters = map (λ t. param_names is_made (func_sig t.0.definition.comp.inner)) (flat_map written_types fs)
  inner_lists binary.TagParameters = map (λ u. param_names is_made u.inline) (flat_map tags_in fs)

  pub record NamesFit : Type 0 where
    pub items : (space : binary.Space) → length (items_in (space_of space) fs) ≤ 2 ^ 32
    pub inner : (space : binary.InnerSpace) → length (inner_lists space) ≤ 2 ^ 32
    pub each : (space : binary.InnerSpace) → All (λ names. length names ≤ 2 ^ 32) (inner_lists space)
