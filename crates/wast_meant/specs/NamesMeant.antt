-- Identifiers and annotations as name maps, and branch hints (WebAssembly 3.0, appendix, Name Section; branch hinting).
use Rattle.std.specs.Prelude.{ℕ, suc, Bool, List, [], ◌∷◌, ◌++◌, map, if◌then◌else◌, Option, Some, None, unwrap_or}
use Rattle.std.specs.List.{flat_map}
use Rattle.wasm_encoder_base.specs.Balanced.{Turn, Opens}
use Rattle.wasm_encoder_base.specs.Table.{Space}
use Rattle.wasm_encoder_base.specs.Table as text
use Rattle.wasm_encoder_custom.specs.Names as binary
use Rattle.wast_parser.specs.Identifiers.{Named}
use Rattle.wast_signatures.specs.TypeTree.{Local, Sig, TypeUse}
use Rattle.wast_imports.specs.ImportTree.{ExternType, OfFunc, OfExactFunc, OfTag, ImportItems, Single, Group1, Group2}
use Rattle.wast_field_syntax.specs.FieldTree.{Function, Defined, Func, Tag, Field, ImportField, Define}
use Rattle.wast_meaning.specs.Spaces.{items_in}
use Rattle.wast_meaning.specs.Implied.{no_sig, written_types, func_sig}
use Rattle.wast_meaning.specs.Scope.{Scope, scope_of, params_of, turn_of_head, own_label}
use Rattle.wasm_layout.specs.AbstractModule.{Naming, InnerNaming, NameMaps, Hint, FunctionHints}

-- a name in a map: an identifier, or the bytes that `@name` gives
pub data GivenName (N : Type 0) : Type 0 where
  Identifier : N → GivenName N
  Bytes : List ℕ → GivenName N

-- what each has, where they are numbered from a number on
abbrev pub entries : {A B : Type 0} → (ℕ → A → List B) → ℕ → List A → List B
entries one n [] = []
entries one n (x ∷ xs) = one n x ++ entries one (suc n) xs

-- MAPS: those that have a name, by their numbers; of what is inside, those that have any
abbrev pub naming : {A : Type 0} → ℕ → Option A → List (Naming A)
naming n None = []
naming n (Some name) = record { index = n; name = name } ∷ []

abbrev pub named_from : {A : Type 0} → ℕ → List (Option A) → List (Naming A)
named_from n os = entries naming n os

abbrev pub named : {A : Type 0} → List (Option A) → List (Naming A)
named os = named_from 0 os

abbrev pub inner_naming : {A : Type 0} → ℕ → List (Naming A) → List (InnerNaming A)
inner_naming n [] = []
inner_naming n (x ∷ xs) = record { index = n; names = x ∷ xs } ∷ []

abbrev pub group_naming : {A : Type 0} → ℕ → List (Option A) → List (InnerNaming A)
group_naming n os = inner_naming n (named os)

abbrev pub inner_from : {A : Type 0} → ℕ → List (List (Option A)) → List (InnerNaming A)
inner_from n groups = entries group_naming n groups

abbrev pub inner_named : {A : Type 0} → List (List (Option A)) → List (InnerNaming A)
inner_named groups = inner_from 0 groups

-- the hints of a function; one that has none is absent
abbrev pub function_hints : ℕ → List Hint → List FunctionHints
function_hints n [] = []
function_hints n (h ∷ hs) = record { function = n; hints = h ∷ hs } ∷ []

-- the index spaces that have a map
abbrev pub space_of : binary.Space → Space
space_of binary.Functions = text.Functions
space_of binary.Types = text.Types
space_of binary.Tables = text.Tables
space_of binary.Memories = text.Memories
space_of binary.Globals = text.Globals
space_of binary.Elements = text.Elems
space_of binary.DataSegments = text.Datas
space_of binary.Tags = text.Tags

module _ {N P : Type 0} where
  -- what is imported, item by item
  abbrev pub imported : ImportItems N P → List (ExternType N P)
  imported (Single name i) = i.extern_type ∷ []
  imported (Group1 is) = map (λ i. i.1.extern_type) is
  imported (Group2 names i) = map (λ name. i.extern_type) names

  -- the functions of their index space; one that is imported has no body
  abbrev pub imported_function : ExternType N P → List (Option (Function N P))
  imported_function (OfFunc u) = None ∷ []
  imported_function (OfExactFunc u) = None ∷ []
  imported_function t = []

  abbrev pub defined_function : Defined N P → List (Option (Function N P))
  defined_function (Func f) = Some f ∷ []
  defined_function d = []

  abbrev pub bodies_in : Field N P → List (Option (Function N P))
  bodies_in (ImportField i) = flat_map imported_function (imported i.items)
  bodies_in (Define d) = defined_function d.defined
  bodies_in f = []

  -- the tags of theirs
  abbrev pub imported_tag : ExternType N P → List (TypeUse N P)
  imported_tag (OfTag u) = u ∷ []
  imported_tag t = []

  abbrev pub defined_tag : Defined N P → List (TypeUse N P)
  defined_tag (Tag u) = u ∷ []
  defined_tag d = []

  abbrev pub tags_in : Field N P → List (TypeUse N P)
  tags_in (ImportField i) = flat_map imported_tag (imported i.items)
  tags_in (Define d) = defined_tag d.defined
  tags_in f = []

  -- HINTS of a body, and of the functions from a number on
  abbrev pub body_hints : Option (Function N P) → List Hint
  body_hints None = []
  body_hints (Some f) = map (λ h. record { index = h.index; value = h.value }) f.body.hints

  abbrev pub hints_from : ℕ → List (Option (Function N P)) → List FunctionHints
  hints_from n os = entries (λ k o. function_hints k (body_hints o)) n os

module _ {N P : Type 0} (is_made : N → Bool) where
  -- `@name` wins; a name that is made up is none
  abbrev pub identifier : Option (Named N P) → Option (GivenName N)
  identifier None = None
  identifier (Some id) = if is_made id.0 then None else Some (Identifier id.0)

  abbrev pub given_name : Option (List ℕ) → Option (Named N P) → Option (GivenName N)
  given_name (Some bytes) id = Some (Bytes bytes)
  given_name None id = identifier id

  abbrev pub local_names : List (Local N P) → List (Option (GivenName N))
  local_names ls = map (λ l. given_name l.given l.id) ls

  abbrev pub param_names : Option (Sig N P) → List (Option (GivenName N))
  param_names s = local_names (unwrap_or s no_sig).params

  -- the locals of a function: the parameters that its use writes, else, unnamed, those of its type, and then its own (6.6, functions)
  abbrev pub names_of_locals : Scope N P → Option (Function N P) → List (Option (GivenName N))
  names_of_locals s None = []
  names_of_locals s (Some f) = elim f.type_use.inline [ Some sig ↦ param_names (Some sig) | None ↦ map (λ p. None) (params_of s f.type_use) ] ++ local_names f.locals

  -- the labels of a body, by the openers in their order
  abbrev pub opener_name : Turn → Option (Named N P) → List (Option (GivenName N))
  opener_name Opens id = identifier id ∷ []
  opener_name turn id = []

  abbrev pub names_of_labels : Option (Function N P) → List (Option (GivenName N))
  names_of_labels None = []
  names_of_labels (Some f) = flat_map (λ i. opener_name (turn_of_head i.head) (own_label i.operands)) f.body.instrs

  module _ (eq : N → N → Bool) (fs : List (Field N P)) where
    -- of items, by their space
    abbrev pub item_names : binary.Space → List (Naming (GivenName N))
    item_names space = named (map (λ b. given_name b.given b.id) (items_in (space_of space) fs))

    -- of locals and labels by function, of fields and parameters by type, of parameters by tag
    abbrev pub inner_names : binary.InnerSpace → List (InnerNaming (GivenName N))
    inner_names binary.Locals = inner_named (map (names_of_locals (scope_of eq fs)) (flat_map bodies_in fs))
    inner_names binary.Labels = inner_named (map names_of_labels (flat_map bodies_in fs))
    inner_names binary.Fields = inner_named (map (λ b. map identifier b.fields) (items_in text.Types fs))
    inner_names binary.Parameters = inner_named (map (λ t. param_names (func_sig t.0.definition.comp.inner)) (flat_map written_types fs))
    inner_names binary.TagParameters = inner_named (map (λ u. param_names u.inline) (flat_map tags_in fs))

    abbrev pub names_of : Option (GivenName N) → NameMaps (GivenName N)
    names_of name = record { module_name = name; items = item_names; inner = inner_names }
