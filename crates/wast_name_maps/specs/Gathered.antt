-- What has names, in the order of fields.
use Rattle.std.specs.Prelude.{ℕ, Bool, true, false, List, [], ◌∷◌, map, Option, Some}
use Rattle.std.specs.List.{flat_map}
use Rattle.wasm_encoder_base.specs.Balanced.{Turn, Opens}
use Rattle.wasm_encoder_base.specs.Table.{Space}
use Rattle.wasm_encoder_custom.specs.Names.{InnerSpace, Locals, Labels, Fields, Parameters, TagParameters}
use Rattle.wast_grammar.specs.Tokens.{Name}
use Rattle.wast_parser.specs.Identifiers.{Named}
use Rattle.wast_signatures.specs.TypeTree.{TypeItem, TypeUse}
use Rattle.wast_core_instr.specs.InstructionTree.{Instruction}
use Rattle.wast_imports.specs.ImportTree.{ExternType, OfFunc, OfExactFunc, OfTag}
use Rattle.wast_module_fields.specs.FieldTree.{Function, Defined, Func, Tag, Field, TypeField, RecField, ImportField, Define}
use Rattle.wast_meaning.specs.Implied.{func_sig}
use Rattle.wast_meaning.specs.Scope.{turn_of_head, own_label}
use Rattle.wast_meaning.specs.Spaces.{Bound, same_space, fields_of}
use Rattle.wast_meant.specs.NamesMeant.{imported}
use Rattle.wast_name_maps.specs.Given.{given, identified, sig_names}
use Rattle.wast_name_maps.specs.Locals.{locals_by}

-- the names of those items that are of a space
abbrev pub name_if : Bool → Option (List ℕ) → List (Option (List ℕ))
name_if true name = name ∷ []
name_if false name = []

abbrev pub bound_names : Space → List (Bound Name ℕ) → List (Option (List ℕ))
bound_names s bs = flat_map (λ b. name_if (same_space s b.space) (given b.given b.id)) bs

-- the labels of a body, by the openers in their order
abbrev pub opened_name : Turn → Option (Named Name ℕ) → List (Option (List ℕ))
opened_name Opens id = identified id ∷ []
opened_name turn id = []

abbrev pub label_names : Instruction Name ℕ → List (Option (List ℕ))
label_names i = opened_name (turn_of_head i.head) (own_label i.operands)

-- NAMES INSIDE of an item: of a type
abbrev pub type_groups : InnerSpace → TypeItem Name ℕ → List (List (Option (List ℕ)))
type_groups Fields t = map identified (fields_of t.definition.comp.inner) ∷ []
type_groups Parameters t = sig_names (func_sig t.definition.comp.inner) ∷ []
type_groups kind t = []

-- of a function that is defined
abbrev pub function_groups : InnerSpace → List ℕ → Function Name ℕ → List (List (Option (List ℕ)))
function_groups Locals counts f = locals_by counts (Some f) ∷ []
function_groups Labels counts f = flat_map label_names f.body.instrs ∷ []
function_groups kind counts f = []

-- of one that is imported
abbrev pub nameless_groups : InnerSpace → List (List (Option (List ℕ)))
nameless_groups Locals = [] ∷ []
nameless_groups Labels = [] ∷ []
nameless_groups kind = []

-- of a tag
abbrev pub tag_groups : InnerSpace → TypeUse Name ℕ → List (List (Option (List ℕ)))
tag_groups TagParameters u = sig_names u.inline ∷ []
tag_groups kind u = []

-- of what is imported, of what is defined, and of a field
abbrev pub import_groups : InnerSpace → ExternType Name ℕ → List (List (Option (List ℕ)))
import_groups kind (OfFunc u) = nameless_groups kind
import_groups kind (OfExactFunc u) = nameless_groups kind
import_groups kind (OfTag u) = tag_groups kind u
import_groups kind t = []

abbrev pub defined_groups : InnerSpace → List ℕ → Defined Name ℕ → List (List (Option (List ℕ)))
defined_groups kind counts (Func f) = function_groups kind counts f
defined_groups kind counts (Tag u) = tag_groups kind u
defined_groups kind counts d = []

abbrev pub field_groups : InnerSpace → List ℕ → Field Name ℕ → List (List (Option (List ℕ)))
field_groups kind counts (TypeField t) = type_groups kind t
field_groups kind counts (RecField r) = flat_map (type_groups kind) r.types
field_groups kind counts (ImportField i) = flat_map (import_groups kind) (imported i.items)
field_groups kind counts (Define d) = defined_groups kind counts d.defined
field_groups kind counts f = []
