-- The items of fields and imports as code has them.
use Rattle.std.proofs.Common.{◌≡◌, ℕ, Bool, true, false, List, [], ◌∷◌, ◌++◌, map, refl, ap}
use Rattle.std.specs.Prelude.{option_map}
use Rattle.std.specs.List.{flat_map}
use Rattle.wasm_encoder_base.specs.Table as table
use Rattle.wast_grammar.specs.Tokens.{Name}
use Rattle.wast_parser.specs.Identifiers.{identifier_tree}
use Rattle.wast_value_types.specs.declared.global_type.GlobalType.{GlobalType}
use Rattle.wast_signatures.specs.SignatureViews.{name_tree, struct_field_tree}
use Rattle.wast_core_types.specs.TypeViews.{item_tree}
use Rattle.wast_signatures.specs.declared.struct_field.StructField.{StructField}
use Rattle.wast_signatures.specs.declared.signature.FunctionType.{FunctionType}
use Rattle.wast_signatures.specs.declared.type_use.TypeUse.{TypeUse}
use Rattle.wast_core_types.specs.declared.definition.TypeItem.{TypeItem}
use Rattle.wast_imports.specs.ImportViews.{item_tree as imported_tree}
use Rattle.wast_imports.specs.declared.item.TagType.{TagType}
use Rattle.wast_imports.specs.declared.item.ItemSig.{ItemSig}
use Rattle.wast_imports.specs.declared.import.ImportGroup1Item.{ImportGroup1Item}
use Rattle.wast_imports.specs.declared.import.ImportGroup2Item.{ImportGroup2Item}
use Rattle.wast_module_fields.specs.FieldTree as spec
use Rattle.wast_module_fields.specs.ElemViews.{defined_table, table_definition}
use Rattle.wast_module_fields.specs.FuncViews.{defined_func, defined_global, defined_tag, func_definition, func_type_tree, global_definition, tag_definition}
use Rattle.wast_module_fields.specs.MemoryViews.{defined_memory, memory_definition}
use Rattle.wast_module_fields.specs.Func.{Func}
use Rattle.wast_module_fields.specs.FuncKind.{FuncKind}
use Rattle.wast_module_fields.specs.FuncKind.TheVariants as funcs
use Rattle.wast_module_fields.specs.Global.{Global}
use Rattle.wast_module_fields.specs.GlobalKind.{GlobalKind}
use Rattle.wast_module_fields.specs.GlobalKind.TheVariants as globals
use Rattle.wast_module_fields.specs.Tag.{Tag}
use Rattle.wast_module_fields.specs.TagKind.{TagKind}
use Rattle.wast_module_fields.specs.TagKind.TheVariants as tags
use Rattle.wast_module_fields.specs.Table.{Table}
use Rattle.wast_module_fields.specs.TableKind.{TableKind}
use Rattle.wast_module_fields.specs.TableKind.TheVariants as tables
use Rattle.wast_module_fields.specs.Memory.{Memory}
use Rattle.wast_module_fields.specs.MemoryKind.{MemoryKind}
use Rattle.wast_module_fields.specs.MemoryKind.TheVariants as memories
use Rattle.wast_meaning.specs.Spaces.{Bound, bound, bound_import, bound_segment, bound_type, items}
use Rattle.wast_meaning.specs.Written.{kind_of, kind_of_type, space_of_kind}

-- LISTS of which each element brings items
pub viewed : {A B C : Type 0} (view : A → B) (of : B → List C) (xs : List A) → flat_map (λ x. of (view x)) xs ≡ flat_map of (map view xs)
viewed view of [] = refl
viewed view of (x ∷ xs) = ap (λ l. of (view x) ++ l) (viewed view of xs)

pub each_one : {A B C : Type 0} (view : A → B) (of : B → C) (xs : List A) → flat_map (λ x. of (view x) ∷ []) xs ≡ map of (map view xs)
each_one view of [] = refl
each_one view of (x ∷ xs) = ap (λ l. of (view x) ∷ l) (each_one view of xs)

-- what elements of the code bring
abbrev pub type_items : TypeItem → List (Bound Name ℕ)
type_items t = bound_type (item_tree t) ∷ []

abbrev pub member_items : ImportGroup1Item → List (Bound Name ℕ)
member_items m = bound_import (imported_tree m.sig) ∷ []

abbrev pub items_of_each : ItemSig → ImportGroup2Item → List (Bound Name ℕ)
items_of_each sig n = bound_import (imported_tree sig) ∷ []

-- DEFINITIONS are of one space, imported or not
func_space : (k : FuncKind) (ty : TypeUse FunctionType) → space_of_kind (kind_of (defined_func k ty)) ≡ table.Functions
func_space (funcs.Import i is_exact) ty = either is_exact
  where
    either : (b : Bool) → space_of_kind (kind_of_type (func_type_tree b ty)) ≡ table.Functions
    either true = refl
    either false = refl
func_space (funcs.Inline locals body) ty = refl

func_segment : (k : FuncKind) (ty : TypeUse FunctionType) → bound_segment (defined_func k ty) ≡ []
func_segment (funcs.Import i is_exact) ty = refl
func_segment (funcs.Inline locals body) ty = refl

pub func_items : (f : Func) → items (spec.Define (func_definition f)) ≡ bound table.Functions (option_map identifier_tree f.id) (option_map name_tree f.name) ∷ []
func_items f = λ i. bound (func_space f.kind f.ty i) (option_map identifier_tree f.id) (option_map name_tree f.name) ∷ func_segment f.kind f.ty i

global_space : (ty : GlobalType) (k : GlobalKind) → space_of_kind (kind_of (defined_global ty k)) ≡ table.Globals
global_space ty (globals.Import i) = refl
global_space ty (globals.Inline init) = refl

global_segment : (ty : GlobalType) (k : GlobalKind) → bound_segment (defined_global ty k) ≡ []
global_segment ty (globals.Import i) = refl
global_segment ty (globals.Inline init) = refl

pub global_items : (g : Global) → items (spec.Define (global_definition g)) ≡ bound table.Globals (option_map identifier_tree g.id) (option_map name_tree g.name) ∷ []
global_items g = λ i. bound (global_space g.ty g.kind i) (option_map identifier_tree g.id) (option_map name_tree g.name) ∷ global_segment g.ty g.kind i

tag_space : (k : TagKind) (ty : TagType) → space_of_kind (kind_of (defined_tag k ty)) ≡ table.Tags
tag_space (tags.Import i) ty = refl
tag_space tags.Inline ty = refl

tag_segment : (k : TagKind) (ty : TagType) → bound_segment (defined_tag k ty) ≡ []
tag_segment (tags.Import i) ty = refl
tag_segment tags.Inline ty = refl

pub tag_items : (t : Tag) → items (spec.Define (tag_definition t)) ≡ bound table.Tags (option_map identifier_tree t.id) (option_map name_tree t.name) ∷ []
tag_items t = λ i. bound (tag_space t.kind t.ty i) (option_map identifier_tree t.id) (option_map name_tree t.name) ∷ tag_segment t.kind t.ty i

-- and of a table or a memory the segment comes behind
table_space : (k : TableKind) → space_of_kind (kind_of (defined_table k)) ≡ table.Tables
table_space (tables.Import i ty) = refl
table_space (tables.Normal ty init) = refl
table_space (tables.Inline is_wide elem payload) = refl

pub table_items : (t : Table) → items (spec.Define (table_definition t)) ≡ bound table.Tables (option_map identifier_tree t.id) (option_map name_tree t.name) ∷ bound_segment (defined_table t.kind)
table_items t = ap (λ s. bound s (option_map identifier_tree t.id) (option_map name_tree t.name) ∷ bound_segment (defined_table t.kind)) (table_space t.kind)

memory_space : (k : MemoryKind) → space_of_kind (kind_of (defined_memory k)) ≡ table.Memories
memory_space (memories.Import i ty) = refl
memory_space (memories.Normal ty) = refl
memory_space (memories.Inline is_wide values page) = refl

pub memory_items : (m : Memory) → items (spec.Define (memory_definition m)) ≡ bound table.Memories (option_map identifier_tree m.id) (option_map name_tree m.name) ∷ bound_segment (defined_memory m.kind)
memory_items m = ap (λ s. bound s (option_map identifier_tree m.id) (option_map name_tree m.name) ∷ bound_segment (defined_memory m.kind)) (memory_space m.kind)

-- FIELDS of structures
pub ids_seen : (fs : List StructField) → map (option_map identifier_tree) (map (λ f. f.id) fs) ≡ map (λ f. f.id) (map struct_field_tree fs)
ids_seen [] = refl
ids_seen (f ∷ fs) = ap (λ l. option_map identifier_tree f.id ∷ l) (ids_seen fs)
