-- Types in which no index is a name: to copy one wants no memory.
use Rattle.std.specs.Prelude.{Bool, true}
use Rattle.wast_words.specs.Indices.{is_number}
use Rattle.wast_value_types.specs.declared.heap_type.HeapType.{HeapType}
use Rattle.wast_value_types.specs.declared.heap_type.HeapType.TheVariants as heaps
use Rattle.wast_value_types.specs.declared.val_type.ValType.{ValType}
use Rattle.wast_value_types.specs.declared.val_type.ValType.TheVariants as vals
use Rattle.wast_value_types.specs.declared.storage_type.StorageType.{StorageType}
use Rattle.wast_value_types.specs.declared.storage_type.StorageType.TheVariants as storages

abbrev pub heap_nameless : HeapType → Bool
heap_nameless (heaps.Abstract shared ty) = true
heap_nameless (heaps.Concrete index) = is_number index
heap_nameless (heaps.Exact index) = is_number index

abbrev pub val_nameless : ValType → Bool
val_nameless (vals.Ref ty) = heap_nameless ty.heap
val_nameless _ = true

abbrev pub storage_nameless : StorageType → Bool
storage_nameless (storages.Val ty) = val_nameless ty
storage_nameless _ = true
