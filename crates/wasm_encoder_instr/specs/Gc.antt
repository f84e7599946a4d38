-- References, structures and arrays, with their operands: opcodes D0 to D6 and FB. (WebAssembly 3.0, 5.4)
use Rattle.std.specs.Prelude.{[], ◌∷◌, ℕ, List, codes}
use Rattle.wasm_encoder_base.specs.Leb.{uleb}
use Rattle.wasm_encoder_base.specs.Instr.{Instr, NoOperands, Index, Pair, Heap, Cast}
use Rattle.wasm_encoder_base.specs.Views.{heap_view, ref_view}
use Rattle.wasm_encoder_instr.specs.declared.gc.GcOp.{GcOp}
use Rattle.wasm_encoder_instr.specs.declared.gc.GcOp.TheVariants as variants

-- the mnemonic of each
abbrev pub gc_mnemonic : GcOp → List ℕ
gc_mnemonic (variants.RefNull heap_type) = codes "ref.null"
gc_mnemonic variants.RefIsNull = codes "ref.is_null"
gc_mnemonic (variants.RefFunc index) = codes "ref.func"
gc_mnemonic variants.RefEq = codes "ref.eq"
gc_mnemonic variants.RefAsNonNull = codes "ref.as_non_null"
gc_mnemonic (variants.BrOnNull index) = codes "br_on_null"
gc_mnemonic (variants.BrOnNonNull index) = codes "br_on_non_null"
gc_mnemonic (variants.StructNew index) = codes "struct.new"
gc_mnemonic (variants.StructNewDefault index) = codes "struct.new_default"
gc_mnemonic (variants.StructGet struct_type_index field_index) = codes "struct.get"
gc_mnemonic (variants.StructGetS struct_type_index field_index) = codes "struct.get_s"
gc_mnemonic (variants.StructGetU struct_type_index field_index) = codes "struct.get_u"
gc_mnemonic (variants.StructSet struct_type_index field_index) = codes "struct.set"
gc_mnemonic (variants.ArrayNew index) = codes "array.new"
gc_mnemonic (variants.ArrayNewDefault index) = codes "array.new_default"
gc_mnemonic (variants.ArrayNewFixed array_type_index array_size) = codes "array.new_fixed"
gc_mnemonic (variants.ArrayNewData array_type_index array_data_index) = codes "array.new_data"
gc_mnemonic (variants.ArrayNewElem array_type_index array_elem_index) = codes "array.new_elem"
gc_mnemonic (variants.ArrayGet index) = codes "array.get"
gc_mnemonic (variants.ArrayGetS index) = codes "array.get_s"
gc_mnemonic (variants.ArrayGetU index) = codes "array.get_u"
gc_mnemonic (variants.ArraySet index) = codes "array.set"
gc_mnemonic variants.ArrayLen = codes "array.len"
gc_mnemonic (variants.ArrayFill index) = codes "array.fill"
gc_mnemonic (variants.ArrayCopy array_type_index_dst array_type_index_src) = codes "array.copy"
gc_mnemonic (variants.ArrayInitData array_type_index array_data_index) = codes "array.init_data"
gc_mnemonic (variants.ArrayInitElem array_type_index array_elem_index) = codes "array.init_elem"
gc_mnemonic (variants.RefTestNonNull heap_type) = codes "ref.test"
gc_mnemonic (variants.RefTestNullable heap_type) = codes "ref.test"
gc_mnemonic (variants.RefCastNonNull heap_type) = codes "ref.cast"
gc_mnemonic (variants.RefCastNullable heap_type) = codes "ref.cast"
gc_mnemonic (variants.BrOnCast relative_depth from_ref_type to_ref_type) = codes "br_on_cast"
gc_mnemonic (variants.BrOnCastFail relative_depth from_ref_type to_ref_type) = codes "br_on_cast_fail"
gc_mnemonic variants.AnyConvertExtern = codes "any.convert_extern"
gc_mnemonic variants.ExternConvertAny = codes "extern.convert_any"
gc_mnemonic variants.RefI31 = codes "ref.i31"
gc_mnemonic variants.I31GetS = codes "i31.get_s"
gc_mnemonic variants.I31GetU = codes "i31.get_u"

-- the opcode and the operands of each, these in the order of the bytes
abbrev pub gc_view : GcOp → Instr
gc_view (variants.RefNull heap_type) = record { opcode = 0xD0 ∷ []; operands = Heap (heap_view heap_type) }
gc_view variants.RefIsNull = record { opcode = 0xD1 ∷ []; operands = NoOperands }
gc_view (variants.RefFunc index) = record { opcode = 0xD2 ∷ []; operands = Index index }
gc_view variants.RefEq = record { opcode = 0xD3 ∷ []; operands = NoOperands }
gc_view variants.RefAsNonNull = record { opcode = 0xD4 ∷ []; operands = NoOperands }
gc_view (variants.BrOnNull index) = record { opcode = 0xD5 ∷ []; operands = Index index }
gc_view (variants.BrOnNonNull index) = record { opcode = 0xD6 ∷ []; operands = Index index }
gc_view (variants.StructNew index) = record { opcode = 0xFB ∷ uleb 0; operands = Index index }
gc_view (variants.StructNewDefault index) = record { opcode = 0xFB ∷ uleb 1; operands = Index index }
gc_view (variants.StructGet struct_type_index field_index) = record { opcode = 0xFB ∷ uleb 2; operands = Pair struct_type_index field_index }
gc_view (variants.StructGetS struct_type_index field_index) = record { opcode = 0xFB ∷ uleb 3; operands = Pair struct_type_index field_index }
gc_view (variants.StructGetU struct_type_index field_index) = record { opcode = 0xFB ∷ uleb 4; operands = Pair struct_type_index field_index }
gc_view (variants.StructSet struct_type_index field_index) = record { opcode = 0xFB ∷ uleb 5; operands = Pair struct_type_index field_index }
gc_view (variants.ArrayNew index) = record { opcode = 0xFB ∷ uleb 6; operands = Index index }
gc_view (variants.ArrayNewDefault index) = record { opcode = 0xFB ∷ uleb 7; operands = Index index }
gc_view (variants.ArrayNewFixed array_type_index array_size) = record { opcode = 0xFB ∷ uleb 8; operands = Pair array_type_index array_size }
gc_view (variants.ArrayNewData array_type_index array_data_index) = record { opcode = 0xFB ∷ uleb 9; operands = Pair array_type_index array_data_index }
gc_view (variants.ArrayNewElem array_type_index array_elem_index) = record { opcode = 0xFB ∷ uleb 10; operands = Pair array_type_index array_elem_index }
gc_view (variants.ArrayGet index) = record { opcode = 0xFB ∷ uleb 11; operands = Index index }
gc_view (variants.ArrayGetS index) = record { opcode = 0xFB ∷ uleb 12; operands = Index index }
gc_view (variants.ArrayGetU index) = record { opcode = 0xFB ∷ uleb 13; operands = Index index }
gc_view (variants.ArraySet index) = record { opcode = 0xFB ∷ uleb 14; operands = Index index }
gc_view variants.ArrayLen = record { opcode = 0xFB ∷ uleb 15; operands = NoOperands }
gc_view (variants.ArrayFill index) = record { opcode = 0xFB ∷ uleb 16; operands = Index index }
gc_view (variants.ArrayCopy array_type_index_dst array_type_index_src) = record { opcode = 0xFB ∷ uleb 17; operands = Pair array_type_index_dst array_type_index_src }
gc_view (variants.ArrayInitData array_type_index array_data_index) = record { opcode = 0xFB ∷ uleb 18; operands = Pair array_type_index array_data_index }
gc_view (variants.ArrayInitElem array_type_index array_elem_index) = record { opcode = 0xFB ∷ uleb 19; operands = Pair array_type_index array_elem_index }
gc_view (variants.RefTestNonNull heap_type) = record { opcode = 0xFB ∷ uleb 20; operands = Heap (heap_view heap_type) }
gc_view (variants.RefTestNullable heap_type) = record { opcode = 0xFB ∷ uleb 21; operands = Heap (heap_view heap_type) }
gc_view (variants.RefCastNonNull heap_type) = record { opcode = 0xFB ∷ uleb 22; operands = Heap (heap_view heap_type) }
gc_view (variants.RefCastNullable heap_type) = record { opcode = 0xFB ∷ uleb 23; operands = Heap (heap_view heap_type) }
gc_view (variants.BrOnCast relative_depth from_ref_type to_ref_type) = record { opcode = 0xFB ∷ uleb 24; operands = Cast relative_depth (ref_view from_ref_type) (ref_view to_ref_type) }
gc_view (variants.BrOnCastFail relative_depth from_ref_type to_ref_type) = record { opcode = 0xFB ∷ uleb 25; operands = Cast relative_depth (ref_view from_ref_type) (ref_view to_ref_type) }
gc_view variants.AnyConvertExtern = record { opcode = 0xFB ∷ uleb 26; operands = NoOperands }
gc_view variants.ExternConvertAny = record { opcode = 0xFB ∷ uleb 27; operands = NoOperands }
gc_view variants.RefI31 = record { opcode = 0xFB ∷ uleb 28; operands = NoOperands }
gc_view variants.I31GetS = record { opcode = 0xFB ∷ uleb 29; operands = NoOperands }
gc_view variants.I31GetU = record { opcode = 0xFB ∷ uleb 30; operands = NoOperands }
