-- What the code's types are as types of WebAssembly, and its kinds of sections as numbers.
use Rattle.std.specs.Prelude.{ℕ, ◌<◌, ◌^◌, List, map, length}
use Rattle.wasm_encoder_base.specs.Types as types
use Rattle.wasm_encoder_base.specs.declared.section.SectionId.{SectionId}
use Rattle.wasm_encoder_base.specs.declared.section.SectionId.TheVariants as sections
use Rattle.wasm_encoder_base.specs.declared.types.AbstractHeapType.{AbstractHeapType}
use Rattle.wasm_encoder_base.specs.declared.types.AbstractHeapType.TheVariants as heaps
use Rattle.wasm_encoder_base.specs.declared.types.HeapType.{HeapType}
use Rattle.wasm_encoder_base.specs.declared.types.HeapType.TheVariants.{Abstract, Concrete}
use Rattle.wasm_encoder_base.specs.declared.types.RefType.{RefType}
use Rattle.wasm_encoder_base.specs.declared.types.ValType.{ValType}
use Rattle.wasm_encoder_base.specs.declared.types.ValType.TheVariants.{I32, I64, F32, F64, V128, Ref}
use Rattle.wasm_encoder_base.specs.declared.types.StorageType.{StorageType}
use Rattle.wasm_encoder_base.specs.declared.types.StorageType.TheVariants.{I8, I16, Val}
use Rattle.wasm_encoder_base.specs.declared.types.FieldType.{FieldType}
use Rattle.wasm_encoder_base.specs.declared.types.FuncType.{FuncType}
use Rattle.wasm_encoder_base.specs.declared.types.StructType.{StructType}
use Rattle.wasm_encoder_base.specs.declared.types.ArrayType.{ArrayType}
use Rattle.wasm_encoder_base.specs.declared.types.CompositeType.{CompositeType}
use Rattle.wasm_encoder_base.specs.declared.types.CompositeType.TheVariants.{Func, Array, Struct}
use Rattle.wasm_encoder_base.specs.declared.types.SubType.{SubType}

abbrev pub abstract_view : AbstractHeapType → types.AbstractHeapType
abstract_view heaps.Func = types.FuncHeap
abstract_view heaps.Extern = types.ExternHeap
abstract_view heaps.Any = types.AnyHeap
abstract_view heaps.Eq = types.EqHeap
abstract_view heaps.I31 = types.I31Heap
abstract_view heaps.Struct = types.StructHeap
abstract_view heaps.Array = types.ArrayHeap
abstract_view heaps.Exn = types.ExnHeap
abstract_view heaps.NoFunc = types.NoFuncHeap
abstract_view heaps.NoExtern = types.NoExternHeap
abstract_view heaps.None = types.NoneHeap
abstract_view heaps.NoExn = types.NoExnHeap

abbrev pub heap_view : HeapType → types.HeapType
heap_view (Abstract a) = types.Abstract (abstract_view a)
heap_view (Concrete n) = types.Concrete n

abbrev pub ref_view : RefType → types.RefType
ref_view r = record { nullable = r.nullable; heap_type = heap_view r.heap_type }

abbrev pub val_view : ValType → types.ValType
val_view I32 = types.I32Type
val_view I64 = types.I64Type
val_view F32 = types.F32Type
val_view F64 = types.F64Type
val_view V128 = types.V128Type
val_view (Ref r) = types.Reference (ref_view r)

abbrev pub storage_view : StorageType → types.StorageType
storage_view I8 = types.I8Type
storage_view I16 = types.I16Type
storage_view (Val t) = types.Value (val_view t)

abbrev pub field_view : FieldType → types.FieldType
field_view f = record { element_type = storage_view f.element_type; mutable = f.mutable }

abbrev pub func_params : FuncType → List ValType
func_params f = f.params

abbrev pub func_results : FuncType → List ValType
func_results f = f.results

abbrev pub func_view : FuncType → types.FuncType
func_view f = record { params = map val_view (func_params f); results = map val_view (func_results f) }

abbrev pub struct_view : StructType → List types.FieldType
struct_view s = map field_view s.fields

abbrev pub array_view : ArrayType → types.FieldType
array_view a = field_view a.0

abbrev pub composite_view : CompositeType → types.CompositeType
composite_view (Func f) = types.Function (func_view f)
composite_view (Array a) = types.Array (array_view a)
composite_view (Struct s) = types.Struct (struct_view s)

abbrev pub sub_view : SubType → types.SubType
sub_view t = record { is_final = t.is_final; supertype = t.supertype_idx; composite_type = composite_view t.composite_type }

-- their counts are numbers of 32 bits
abbrev pub func_fits : FuncType → Type 0
func_fits f = (length (func_params f) < 2 ^ 32) × (length (func_results f) < 2 ^ 32)

abbrev pub struct_fits : StructType → Type 0
struct_fits s = length s.fields < 2 ^ 32

abbrev pub composite_fits : CompositeType → Type 0
composite_fits (Func f) = func_fits f
composite_fits (Array a) = Unit {0}
composite_fits (Struct s) = struct_fits s

-- the numbers of the sections (5.5.2)
abbrev pub section_number : SectionId → ℕ
section_number sections.Custom = 0
section_number sections.TypeItem = 1
section_number sections.Import = 2
section_number sections.Function = 3
section_number sections.Table = 4
section_number sections.Memory = 5
section_number sections.Global = 6
section_number sections.Export = 7
section_number sections.Start = 8
section_number sections.Element = 9
section_number sections.Code = 10
section_number sections.Data = 11
section_number sections.DataCount = 12
section_number sections.Tag = 13
