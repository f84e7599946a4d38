-- The types of a binary that types stand for whose indices are numbers (WebAssembly 3.0, 6.4 and 5.3), over names of type N and
-- places of type P. Names, places and annotations leave no trace. What isn't covered stands for nothing; it is left out here, or
-- taken for something else.
use Rattle.std.specs.Prelude.{ℕ, Bool, [], map, Option, Some, None, option_map}
use Rattle.wasm_encoder_base.specs.Types as binary
use Rattle.wasm_encoder_items.specs.EntityTypes as entities
use Rattle.wasm_encoder_items.specs.TypeEntries.{TypeEntry, OneType, TypeGroup}
use Rattle.wasm_encoder_items.specs.Imports as imports
use Rattle.wast_parser.specs.Identifiers.{Reference, ByNumber, ByName}
use Rattle.wast_value_types.specs.ValueTree.{NumberType, I32, I64, F32, F64, V128, HeapWord, Known, HeapType, Abstract, Concrete, Exact, RefType, ValType, Number, Ref, PackedType, I8, I16, StorageType, Packed, Value, FieldType, Limits, TableType, MemoryType, GlobalType}
use Rattle.wast_signatures.specs.TypeTree.{Sig, InnerType, FuncType, StructType, ArrayType, ContType, TypeDef, TypeItem, Rec, TypeUse}
use Rattle.wast_imports.specs.ImportTree.{ExternType, OfFunc, OfExactFunc, OfTable, OfMemory, OfGlobal, OfTag}
use Rattle.wast_exports.specs.Exports as exports

-- number types (6.4.1) and packed types (6.4.6)
abbrev pub number_meant : NumberType → binary.ValType
number_meant I32 = binary.I32Type
number_meant I64 = binary.I64Type
number_meant F32 = binary.F32Type
number_meant F64 = binary.F64Type
number_meant V128 = binary.V128Type

abbrev pub packed_meant : PackedType → binary.StorageType
packed_meant I8 = binary.I8Type
packed_meant I16 = binary.I16Type

-- abstract heap types (6.4.2)
abbrev pub word_meant : HeapWord → binary.AbstractHeapType
word_meant (Known a) = a
word_meant _ = binary.AnyHeap

-- limits (6.4.8), with what a memory or a table has beside them
abbrev pub limits_meant : Limits → (shared : Bool) → (page_size_log2 : Option ℕ) → entities.Limits
limits_meant l shared page = record { minimum = l.minimum; maximum = l.maximum; shared = shared; is_64 = l.is_wide; page_size_log2 = page }

-- memory types (6.4.11)
abbrev pub memory_meant : MemoryType → entities.Limits
memory_meant m = limits_meant m.limits m.shared m.page

-- what may be exported (6.6, exports)
abbrev pub export_kind_meant : exports.ExportKind → imports.ExportKind
export_kind_meant exports.Func = imports.FuncExport
export_kind_meant exports.Table = imports.TableExport
export_kind_meant exports.Memory = imports.MemoryExport
export_kind_meant exports.Global = imports.GlobalExport
export_kind_meant exports.Tag = imports.TagExport

module _ {N P : Type 0} where
  -- the number of an index
  abbrev pub number_of : Reference N P → ℕ
  number_of (ByNumber n p) = n
  number_of (ByName id) = 0

  -- heap, reference and value types (6.4.2 to 6.4.4)
  abbrev pub heap_meant : HeapType N P → binary.HeapType
  heap_meant (Abstract shared w) = binary.Abstract (word_meant w)
  heap_meant (Concrete i) = binary.Concrete (number_of i)
  heap_meant (Exact i) = binary.Concrete (number_of i)

  abbrev pub ref_meant : RefType N P → binary.RefType
  ref_meant r = record { nullable = r.nullable; heap_type = heap_meant r.heap_type }

  abbrev pub val_meant : ValType N P → binary.ValType
  val_meant (Number t) = number_meant t
  val_meant (Ref r) = binary.Reference (ref_meant r)

  -- storage and field types (6.4.6)
  abbrev pub storage_meant : StorageType N P → binary.StorageType
  storage_meant (Packed t) = packed_meant t
  storage_meant (Value t) = binary.Value (val_meant t)

  abbrev pub field_meant : FieldType N P → binary.FieldType
  field_meant f = record { element_type = storage_meant f.storage; mutable = f.mutable }

  -- function types (6.4.5)
  abbrev pub func_meant : Sig N P → binary.FuncType
  func_meant s = record { params = map (λ p. val_meant p.val_type) s.params; results = map val_meant s.results }

  -- composite types (6.4.6)
  abbrev pub inner_meant : InnerType N P → binary.CompositeType
  inner_meant (FuncType s) = binary.Function (func_meant s)
  inner_meant (StructType fs) = binary.Struct (map (λ f. field_meant f.field_type) fs)
  inner_meant (ArrayType t) = binary.Array (field_meant t)
  inner_meant (ContType i) = binary.Struct []

  -- type definitions, and groups of them (6.4.7)
  abbrev pub sub_meant : TypeDef N P → binary.SubType
  sub_meant d = record { is_final = d.is_final; supertype = option_map number_of d.supertype; composite_type = inner_meant d.comp.inner }

  abbrev pub type_meant : TypeItem N P → TypeEntry
  type_meant t = OneType (sub_meant t.definition)

  abbrev pub rec_meant : Rec N P → TypeEntry
  rec_meant r = TypeGroup (map (λ t. sub_meant t.definition) r.types)

  -- the type of a use (6.6, type uses) that has an index
  abbrev pub use_meant : TypeUse N P → ℕ
  use_meant u = elim u.index [ Some i ↦ number_of i | None ↦ 0 ]

  -- table, global and external types (6.4.12, 6.4.10, 6.4.13)
  abbrev pub table_meant : TableType N P → entities.TableType
  table_meant t = record { element_type = ref_meant t.element; limits = limits_meant t.limits t.shared None }

  abbrev pub global_meant : GlobalType N P → entities.GlobalType
  global_meant g = record { val_type = val_meant g.val_type; mutable = g.mutable; shared = g.shared }

  abbrev pub extern_meant : ExternType N P → entities.EntityType
  extern_meant (OfFunc u) = entities.FunctionEntity (use_meant u)
  extern_meant (OfExactFunc u) = entities.FunctionEntity (use_meant u)
  extern_meant (OfTable t) = entities.TableEntity (table_meant t)
  extern_meant (OfMemory t) = entities.MemoryEntity (memory_meant t)
  extern_meant (OfGlobal t) = entities.GlobalEntity (global_meant t)
  extern_meant (OfTag u) = entities.TagEntity (use_meant u)
