-- What the grammar sees of the code's types.
use Rattle.std.specs.Prelude.{ℕ, Bool, true, false, List, codes}
use Rattle.wast_words.specs.Tokens.{Name}
use Rattle.wasm_encoder_base.specs.Types.{FuncHeap, ExternHeap, AnyHeap, EqHeap, I31Heap, StructHeap, ArrayHeap, ExnHeap, NoFuncHeap, NoExternHeap, NoneHeap, NoExnHeap}
use Rattle.wast_words.specs.Identifiers.{index_tree}
use Rattle.wast_value_types.specs.ValueTree.{HeapWord, Known, Cont, NoCont, Abstract, Concrete, Exact, Number, Ref, Packed, Value}
use Rattle.wast_value_types.specs.ValueTree as spec
use Rattle.wast_value_types.specs.declared.heap_type.AbstractHeapType.{AbstractHeapType}
use Rattle.wast_value_types.specs.declared.heap_type.AbstractHeapType.TheVariants as words
use Rattle.wast_value_types.specs.declared.heap_type.HeapType.{HeapType}
use Rattle.wast_value_types.specs.declared.heap_type.HeapType.TheVariants as heaps
use Rattle.wast_value_types.specs.declared.ref_type.RefType.{RefType}
use Rattle.wast_value_types.specs.declared.val_type.NumberType.{NumberType}
use Rattle.wast_value_types.specs.declared.val_type.NumberType.TheVariants as numbers
use Rattle.wast_value_types.specs.declared.val_type.ValType.{ValType}
use Rattle.wast_value_types.specs.declared.val_type.ValType.TheVariants as vals
use Rattle.wast_value_types.specs.declared.storage_type.PackedType.{PackedType}
use Rattle.wast_value_types.specs.declared.storage_type.PackedType.TheVariants as packed
use Rattle.wast_value_types.specs.declared.storage_type.StorageType.{StorageType}
use Rattle.wast_value_types.specs.declared.storage_type.StorageType.TheVariants as storages
use Rattle.wast_value_types.specs.declared.storage_type.FieldType.{FieldType}
use Rattle.wast_value_types.specs.declared.global_type.GlobalType.{GlobalType}
use Rattle.wast_value_types.specs.declared.limits.AddressType.{AddressType}
use Rattle.wast_value_types.specs.declared.limits.AddressType.TheVariants as addresses
use Rattle.wast_value_types.specs.declared.limits.Limits.{Limits}
use Rattle.wast_value_types.specs.declared.table_type.TableType.{TableType}
use Rattle.wast_value_types.specs.declared.table_type.MemoryType.{MemoryType}

-- an abstract heap type, and how it is written
abbrev pub heap_word : AbstractHeapType → HeapWord
heap_word words.Func = Known FuncHeap
heap_word words.Extern = Known ExternHeap
heap_word words.Exn = Known ExnHeap
heap_word words.Cont = Cont
heap_word words.Any = Known AnyHeap
heap_word words.Eq = Known EqHeap
heap_word words.Struct = Known StructHeap
heap_word words.Array = Known ArrayHeap
heap_word words.I31 = Known I31Heap
heap_word words.NoFunc = Known NoFuncHeap
heap_word words.NoExtern = Known NoExternHeap
heap_word words.None = Known NoneHeap
heap_word words.NoExn = Known NoExnHeap
heap_word words.NoCont = NoCont

abbrev pub heap_text : AbstractHeapType → List ℕ
heap_text words.Func = codes "func"
heap_text words.Extern = codes "extern"
heap_text words.Exn = codes "exn"
heap_text words.Cont = codes "cont"
heap_text words.Any = codes "any"
heap_text words.Eq = codes "eq"
heap_text words.Struct = codes "struct"
heap_text words.Array = codes "array"
heap_text words.I31 = codes "i31"
heap_text words.NoFunc = codes "nofunc"
heap_text words.NoExtern = codes "noextern"
heap_text words.None = codes "none"
heap_text words.NoExn = codes "noexn"
heap_text words.NoCont = codes "nocont"

-- how the abbreviation of a nullable reference to it is written
abbrev pub short_text : AbstractHeapType → List ℕ
short_text words.Func = codes "funcref"
short_text words.Extern = codes "externref"
short_text words.Exn = codes "exnref"
short_text words.Cont = codes "contref"
short_text words.Any = codes "anyref"
short_text words.Eq = codes "eqref"
short_text words.Struct = codes "structref"
short_text words.Array = codes "arrayref"
short_text words.I31 = codes "i31ref"
short_text words.NoFunc = codes "nullfuncref"
short_text words.NoExtern = codes "nullexternref"
short_text words.None = codes "nullref"
short_text words.NoExn = codes "nullexnref"
short_text words.NoCont = codes "nullcontref"

-- number and packed types, address types, and how they are written
abbrev pub number_type : NumberType → spec.NumberType
number_type numbers.I32 = spec.I32
number_type numbers.I64 = spec.I64
number_type numbers.F32 = spec.F32
number_type numbers.F64 = spec.F64
number_type numbers.V128 = spec.V128

abbrev pub number_text : NumberType → List ℕ
number_text numbers.I32 = codes "i32"
number_text numbers.I64 = codes "i64"
number_text numbers.F32 = codes "f32"
number_text numbers.F64 = codes "f64"
number_text numbers.V128 = codes "v128"

abbrev pub packed_type : PackedType → spec.PackedType
packed_type packed.I8 = spec.I8
packed_type packed.I16 = spec.I16

abbrev pub packed_text : PackedType → List ℕ
packed_text packed.I8 = codes "i8"
packed_text packed.I16 = codes "i16"

abbrev pub is_wide : AddressType → Bool
is_wide addresses.I32 = false
is_wide addresses.I64 = true

abbrev pub address_text : AddressType → List ℕ
address_text addresses.I32 = codes "i32"
address_text addresses.I64 = codes "i64"

-- the trees
abbrev pub heap_tree : HeapType → spec.HeapType Name ℕ
heap_tree (heaps.Abstract shared ty) = Abstract shared (heap_word ty)
heap_tree (heaps.Concrete index) = Concrete (index_tree index)
heap_tree (heaps.Exact index) = Exact (index_tree index)

abbrev pub ref_tree : RefType → spec.RefType Name ℕ
ref_tree r = record { nullable = r.nullable; heap_type = heap_tree r.heap }

abbrev pub val_tree : ValType → spec.ValType Name ℕ
val_tree vals.I32 = Number spec.I32
val_tree vals.I64 = Number spec.I64
val_tree vals.F32 = Number spec.F32
val_tree vals.F64 = Number spec.F64
val_tree vals.V128 = Number spec.V128
val_tree (vals.Ref r) = Ref (ref_tree r)

abbrev pub storage_tree : StorageType → spec.StorageType Name ℕ
storage_tree storages.I8 = Packed spec.I8
storage_tree storages.I16 = Packed spec.I16
storage_tree (storages.Val t) = Value (val_tree t)

abbrev pub field_tree : FieldType → spec.FieldType Name ℕ
field_tree f = record { mutable = f.mutable; storage = storage_tree f.ty }

abbrev pub global_tree : GlobalType → spec.GlobalType Name ℕ
global_tree g = record { val_type = val_tree g.ty; mutable = g.mutable; shared = g.shared }

abbrev pub limits_tree : Limits → spec.Limits
limits_tree l = record { is_wide = l.is64; minimum = l.min; maximum = l.max }

abbrev pub table_tree : TableType → spec.TableType Name ℕ
table_tree t = record { limits = limits_tree t.limits; shared = t.shared; element = ref_tree t.elem }

abbrev pub memory_tree : MemoryType → spec.MemoryType
memory_tree m = record { limits = limits_tree m.limits; shared = m.shared; page = m.page_size_log2 }
