-- What stands in a section stands for one item of it.
use Rattle.std.specs.Prelude.{◌≡◌, List, [], ◌∷◌, refl}
use Rattle.wast_signatures.specs.declared.signature.FunctionType.{FunctionType}
use Rattle.wast_signatures.specs.declared.type_use.TypeUse.{TypeUse}
use Rattle.wast_value_types.specs.declared.global_type.GlobalType.{GlobalType}
use Rattle.wast_imports.specs.declared.item.TagType.{TagType}
use Rattle.wast_fields.specs.ElemViews.{defined_table, table_definition}
use Rattle.wast_fields.specs.FieldTree.{Define}
use Rattle.wast_fields.specs.FuncViews.{defined_func, defined_global, defined_tag, func_definition, global_definition, tag_definition}
use Rattle.wast_fields.specs.MemoryViews.{defined_memory, memory_definition}
use Rattle.wast_fields.specs.Func.{Func}
use Rattle.wast_fields.specs.FuncKind.{FuncKind}
use Rattle.wast_fields.specs.FuncKind.TheVariants as funcs
use Rattle.wast_fields.specs.Table.{Table}
use Rattle.wast_fields.specs.TableKind.{TableKind}
use Rattle.wast_fields.specs.TableKind.TheVariants as tables
use Rattle.wast_fields.specs.Memory.{Memory}
use Rattle.wast_fields.specs.MemoryKind.{MemoryKind}
use Rattle.wast_fields.specs.MemoryKind.TheVariants as memories
use Rattle.wast_fields.specs.Global.{Global}
use Rattle.wast_fields.specs.GlobalKind.{GlobalKind}
use Rattle.wast_fields.specs.GlobalKind.TheVariants as globals
use Rattle.wast_fields.specs.Tag.{Tag}
use Rattle.wast_fields.specs.TagKind.{TagKind}
use Rattle.wast_fields.specs.TagKind.TheVariants as tags
use Rattle.wast_meant.specs.FieldsMeant.{functions_of, globals_of, memories_of, tables_of, tags_of}
use Rattle.wast_section_items.specs.Ready.{DefinedReady, FieldReady}

-- these are one
abbrev pub IsOne : {A : Type 0} → List A → Type 0
IsOne {A} items = (item : A) × (items ≡ item ∷ [])

-- what is defined is, where it can be encoded: what is imported, or stands inline in place of a type, can't
of_func : (kind : FuncKind) (ty : TypeUse FunctionType) → DefinedReady (defined_func kind ty) → IsOne (functions_of (defined_func kind ty))
of_func (funcs.Import i is_exact) ty ready = absurd ready
of_func (funcs.Inline locals body) ty ready = (_, refl)

of_table : (kind : TableKind) → DefinedReady (defined_table kind) → IsOne (tables_of (defined_table kind))
of_table (tables.Import i ty) ready = absurd ready
of_table (tables.Normal ty init) ready = (_, refl)
of_table (tables.Inline is_wide elem payload) ready = absurd ready

of_memory : (kind : MemoryKind) → DefinedReady (defined_memory kind) → IsOne (memories_of (defined_memory kind))
of_memory (memories.Import i ty) ready = absurd ready
of_memory (memories.Normal ty) ready = (_, refl)
of_memory (memories.Inline is_wide values page) ready = absurd ready

of_global : (ty : GlobalType) (kind : GlobalKind) → DefinedReady (defined_global ty kind) → IsOne (globals_of (defined_global ty kind))
of_global ty (globals.Import i) ready = absurd ready
of_global ty (globals.Inline init) ready = (_, refl)

of_tag : (kind : TagKind) (ty : TagType) → DefinedReady (defined_tag kind ty) → IsOne (tags_of (defined_tag kind ty))
of_tag (tags.Import i) ty ready = absurd ready
of_tag tags.Inline ty ready = (_, refl)

pub one_func : (f : Func) → FieldReady (Define (func_definition f)) → IsOne (functions_of (func_definition f).defined)
one_func f ready = of_func f.kind f.ty ready.resolved

pub one_table : (t : Table) → FieldReady (Define (table_definition t)) → IsOne (tables_of (table_definition t).defined)
one_table t ready = of_table t.kind ready.resolved

pub one_memory : (m : Memory) → FieldReady (Define (memory_definition m)) → IsOne (memories_of (memory_definition m).defined)
one_memory m ready = of_memory m.kind ready.resolved

pub one_global : (g : Global) → FieldReady (Define (global_definition g)) → IsOne (globals_of (global_definition g).defined)
one_global g ready = of_global g.ty g.kind ready.resolved

pub one_tag : (t : Tag) → FieldReady (Define (tag_definition t)) → IsOne (tags_of (tag_definition t).defined)
one_tag t ready = of_tag t.kind t.ty ready.resolved
