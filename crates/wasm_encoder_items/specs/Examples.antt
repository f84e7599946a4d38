-- Items of sections and their bytes, by hand.
use Rattle.std.specs.Prelude.{◌≡◌, codes, true, false, [], ◌∷◌, Some, None}
use Rattle.wasm_encoder_base.specs.Types.{I32Type, Abstract, FuncHeap, ExternHeap, Function}
use Rattle.wasm_encoder_items.specs.EntityTypes.{FunctionEntity, GlobalEntity, limits_bytes}
use Rattle.wasm_encoder_items.specs.Imports.{One, OfModule, OfType, imports_bytes, MemoryExport, export_bytes}
use Rattle.wasm_encoder_items.specs.Segments.{ended, ActiveTableFunctions, ActiveExpressions, ActiveTableExpressions, element_bytes, ActiveData, data_bytes, WithInit, table_item, global_item}
use Rattle.wasm_encoder_items.specs.TypeEntries.{TypeGroup, entry_bytes}

-- expressions are the bytes of their instructions: i32.const 0 is 41 00, ref.func 5 is D2 05
pub record ItemExamples : Type 0 where
  -- a shared memory of 1 to 256 pages
  pub limits : limits_bytes (record { minimum = 1; maximum = Some 256; shared = true; is_64 = false; page_size_log2 = None }) ≡ 0x03 ∷ 0x01 ∷ 0x80 ∷ 0x02 ∷ []
  -- (rec (type (sub (func))))
  pub group : entry_bytes (TypeGroup (record { is_final = false; supertype = None; composite_type = Function (record { params = []; results = [] }) } ∷ [])) ≡ 0x4E ∷ 0x01 ∷ 0x50 ∷ 0x00 ∷ 0x60 ∷ 0x00 ∷ 0x00 ∷ []
  -- (import "m" "f" (func (type 3)))
  pub import : imports_bytes (One (record { module_name = codes "m"; name = codes "f"; type = FunctionEntity 3 })) ≡ 0x01 ∷ 0x6D ∷ 0x01 ∷ 0x66 ∷ 0x00 ∷ 0x03 ∷ []
  -- (import "m" (item "a" (func)) (item "b" (global i32)))
  pub of_module : imports_bytes (OfModule (codes "m") (record { name = codes "a"; type = FunctionEntity 0 } ∷ record { name = codes "b"; type = GlobalEntity (record { val_type = I32Type; mutable = false; shared = false }) } ∷ [])) ≡ 0x01 ∷ 0x6D ∷ 0x00 ∷ 0x7F ∷ 0x02 ∷ 0x01 ∷ 0x61 ∷ 0x00 ∷ 0x00 ∷ 0x01 ∷ 0x62 ∷ 0x03 ∷ 0x7F ∷ 0x00 ∷ []
  -- (import "m" (item "a") (item "b") (func))
  pub of_type : imports_bytes (OfType (codes "m") (FunctionEntity 0) (codes "a" ∷ codes "b" ∷ [])) ≡ 0x01 ∷ 0x6D ∷ 0x00 ∷ 0x7E ∷ 0x00 ∷ 0x00 ∷ 0x02 ∷ 0x01 ∷ 0x61 ∷ 0x01 ∷ 0x62 ∷ []
  -- (export "m" (memory 1))
  pub export : export_bytes (record { name = codes "m"; kind = MemoryExport; index = 1 }) ≡ 0x01 ∷ 0x6D ∷ 0x02 ∷ 0x01 ∷ []
  -- (table 1 (ref func) (ref.func 5))
  pub table : table_item ended (WithInit (record { element_type = record { nullable = false; heap_type = Abstract FuncHeap }; limits = record { minimum = 1; maximum = None; shared = false; is_64 = false; page_size_log2 = None } }) (0xD2 ∷ 0x05 ∷ [])) ≡ 0x40 ∷ 0x00 ∷ 0x64 ∷ 0x70 ∷ 0x00 ∷ 0x01 ∷ 0xD2 ∷ 0x05 ∷ 0x0B ∷ []
  -- (global (mut i32) (i32.const 0))
  pub global : global_item ended (record { type = record { val_type = I32Type; mutable = true; shared = false }; init = 0x41 ∷ 0x00 ∷ [] }) ≡ 0x7F ∷ 0x01 ∷ 0x41 ∷ 0x00 ∷ 0x0B ∷ []
  -- (elem (table 0) (i32.const 0) func 1)
  pub functions : element_bytes ended (ActiveTableFunctions 0 (0x41 ∷ 0x00 ∷ []) (1 ∷ [])) ≡ 0x02 ∷ 0x00 ∷ 0x41 ∷ 0x00 ∷ 0x0B ∷ 0x00 ∷ 0x01 ∷ 0x01 ∷ []
  -- (elem (i32.const 0) funcref (ref.func 5))
  pub values : element_bytes ended (ActiveExpressions (0x41 ∷ 0x00 ∷ []) ((0xD2 ∷ 0x05 ∷ []) ∷ [])) ≡ 0x04 ∷ 0x41 ∷ 0x00 ∷ 0x0B ∷ 0x01 ∷ 0xD2 ∷ 0x05 ∷ 0x0B ∷ []
  -- (elem (table 0) (i32.const 0) externref)
  pub typed_values : element_bytes ended (ActiveTableExpressions 0 (0x41 ∷ 0x00 ∷ []) (record { nullable = true; heap_type = Abstract ExternHeap }) []) ≡ 0x06 ∷ 0x00 ∷ 0x41 ∷ 0x00 ∷ 0x0B ∷ 0x6F ∷ 0x00 ∷ []
  -- (data (i32.const 0) "a"), and the same in memory 1
  pub first_memory : data_bytes ended (ActiveData 0 (0x41 ∷ 0x00 ∷ []) (codes "a")) ≡ 0x00 ∷ 0x41 ∷ 0x00 ∷ 0x0B ∷ 0x01 ∷ 0x61 ∷ []
  pub second_memory : data_bytes ended (ActiveData 1 (0x41 ∷ 0x00 ∷ []) (codes "a")) ≡ 0x02 ∷ 0x01 ∷ 0x41 ∷ 0x00 ∷ 0x0B ∷ 0x01 ∷ 0x61 ∷ []
