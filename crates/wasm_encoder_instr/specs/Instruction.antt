-- What the encoder's instructions are: an opcode of the table and its operands (WebAssembly 3.0, 5.4).
use Rattle.std.specs.Prelude.{◌<◌, ◌^◌, [], ◌∷◌, map, ℕ, List, codes}
use Rattle.wasm_encoder_base.specs.Ieee.{ieee32_bits, ieee64_bits}
use Rattle.wasm_encoder_base.specs.Leb.{uleb}
use Rattle.wasm_encoder_base.specs.Instr.{Instr, NoOperands, Index, Indirect, LabelTable, Block, TryTable, ValTypes, I32, I64, F32, F64, Memory, Fence, counts_fit}
use Rattle.wasm_encoder_base.specs.Views.{val_view}
use Rattle.wasm_encoder_instr.specs.Block.{block_view}
use Rattle.wasm_encoder_instr.specs.Catch.{catch_view}
use Rattle.wasm_encoder_instr.specs.MemArg.{mem_arg_view, is_aligned}
use Rattle.wasm_encoder_opcodes.specs.Compare.{compare_mnemonic, compare_opcode}
use Rattle.wasm_encoder_opcodes.specs.Numeric.{numeric_mnemonic, numeric_opcode}
use Rattle.wasm_encoder_opcodes.specs.Convert.{convert_mnemonic, convert_opcode}
use Rattle.wasm_encoder_opcodes.specs.Vector.{vector_mnemonic, vector_opcode}
use Rattle.wasm_encoder_opcodes.specs.VectorNarrow.{vector_narrow_mnemonic, vector_narrow_opcode}
use Rattle.wasm_encoder_opcodes.specs.VectorWide.{vector_wide_mnemonic, vector_wide_opcode}
use Rattle.wasm_encoder_opcodes.specs.VectorFloat.{vector_float_mnemonic, vector_float_opcode}
use Rattle.wasm_encoder_opcodes.specs.Access.{access_mnemonic, access_opcode}
use Rattle.wasm_encoder_opcodes.specs.Atomic.{atomic_mnemonic, atomic_opcode}
use Rattle.wasm_encoder_opcodes.specs.AtomicRmw.{atomic_rmw_mnemonic, atomic_rmw_opcode}
use Rattle.wasm_encoder_instr.specs.Bulk.{bulk_mnemonic, bulk_view}
use Rattle.wasm_encoder_instr.specs.Gc.{gc_mnemonic, gc_view}
use Rattle.wasm_encoder_instr.specs.VectorArg.{vector_arg_mnemonic, vector_arg_view}
use Rattle.wasm_encoder_instr.specs.declared.instruction.Instruction.{Instruction}
use Rattle.wasm_encoder_instr.specs.declared.instruction.Instruction.TheVariants as variants

-- the mnemonic of an instruction
abbrev pub instr_mnemonic : Instruction → List ℕ
instr_mnemonic variants.Unreachable = codes "unreachable"
instr_mnemonic variants.Nop = codes "nop"
instr_mnemonic (variants.Block block_type) = codes "block"
instr_mnemonic (variants.Loop block_type) = codes "loop"
instr_mnemonic (variants.If block_type) = codes "if"
instr_mnemonic variants.Else = codes "else"
instr_mnemonic (variants.Try block_type) = codes "try"
instr_mnemonic (variants.Catch index) = codes "catch"
instr_mnemonic (variants.Throw index) = codes "throw"
instr_mnemonic (variants.Rethrow index) = codes "rethrow"
instr_mnemonic variants.ThrowRef = codes "throw_ref"
instr_mnemonic variants.End = codes "end"
instr_mnemonic (variants.Br index) = codes "br"
instr_mnemonic (variants.BrIf index) = codes "br_if"
instr_mnemonic (variants.BrTable labels default) = codes "br_table"
instr_mnemonic variants.Return = codes "return"
instr_mnemonic (variants.Call index) = codes "call"
instr_mnemonic (variants.CallIndirect type_index table_index) = codes "call_indirect"
instr_mnemonic (variants.ReturnCall index) = codes "return_call"
instr_mnemonic (variants.ReturnCallIndirect type_index table_index) = codes "return_call_indirect"
instr_mnemonic (variants.CallRef index) = codes "call_ref"
instr_mnemonic (variants.ReturnCallRef index) = codes "return_call_ref"
instr_mnemonic (variants.Delegate index) = codes "delegate"
instr_mnemonic variants.CatchAll = codes "catch_all"
instr_mnemonic variants.Drop = codes "drop"
instr_mnemonic variants.Select = codes "select"
instr_mnemonic (variants.TypedSelect val_type) = codes "select"
instr_mnemonic (variants.TypedSelectMulti types) = codes "select"
instr_mnemonic (variants.TryTable block_type catches) = codes "try_table"
instr_mnemonic (variants.LocalGet index) = codes "local.get"
instr_mnemonic (variants.LocalSet index) = codes "local.set"
instr_mnemonic (variants.LocalTee index) = codes "local.tee"
instr_mnemonic (variants.GlobalGet index) = codes "global.get"
instr_mnemonic (variants.GlobalSet index) = codes "global.set"
instr_mnemonic (variants.TableGet index) = codes "table.get"
instr_mnemonic (variants.TableSet index) = codes "table.set"
instr_mnemonic (variants.MemorySize index) = codes "memory.size"
instr_mnemonic (variants.MemoryGrow index) = codes "memory.grow"
instr_mnemonic (variants.I32Const value) = codes "i32.const"
instr_mnemonic (variants.I64Const value) = codes "i64.const"
instr_mnemonic (variants.F32Const value) = codes "f32.const"
instr_mnemonic (variants.F64Const value) = codes "f64.const"
instr_mnemonic (variants.Compare op) = compare_mnemonic op
instr_mnemonic (variants.Numeric op) = numeric_mnemonic op
instr_mnemonic (variants.Convert op) = convert_mnemonic op
instr_mnemonic (variants.Vector op) = vector_mnemonic op
instr_mnemonic (variants.VectorNarrow op) = vector_narrow_mnemonic op
instr_mnemonic (variants.VectorWide op) = vector_wide_mnemonic op
instr_mnemonic (variants.VectorFloat op) = vector_float_mnemonic op
instr_mnemonic (variants.Access op memarg) = access_mnemonic op
instr_mnemonic variants.AtomicFence = codes "atomic.fence"
instr_mnemonic (variants.Atomic op memarg) = atomic_mnemonic op
instr_mnemonic (variants.AtomicRmw op memarg) = atomic_rmw_mnemonic op
instr_mnemonic (variants.Bulk op) = bulk_mnemonic op
instr_mnemonic (variants.Gc op) = gc_mnemonic op
instr_mnemonic (variants.VectorArg op) = vector_arg_mnemonic op

-- the opcode and the operands of each
abbrev pub instr_view : Instruction → Instr
instr_view variants.Unreachable = record { opcode = 0x00 ∷ []; operands = NoOperands }
instr_view variants.Nop = record { opcode = 0x01 ∷ []; operands = NoOperands }
instr_view (variants.Block block_type) = record { opcode = 0x02 ∷ []; operands = Block (block_view block_type) }
instr_view (variants.Loop block_type) = record { opcode = 0x03 ∷ []; operands = Block (block_view block_type) }
instr_view (variants.If block_type) = record { opcode = 0x04 ∷ []; operands = Block (block_view block_type) }
instr_view variants.Else = record { opcode = 0x05 ∷ []; operands = NoOperands }
instr_view (variants.Try block_type) = record { opcode = 0x06 ∷ []; operands = Block (block_view block_type) }
instr_view (variants.Catch index) = record { opcode = 0x07 ∷ []; operands = Index index }
instr_view (variants.Throw index) = record { opcode = 0x08 ∷ []; operands = Index index }
instr_view (variants.Rethrow index) = record { opcode = 0x09 ∷ []; operands = Index index }
instr_view variants.ThrowRef = record { opcode = 0x0A ∷ []; operands = NoOperands }
instr_view variants.End = record { opcode = 0x0B ∷ []; operands = NoOperands }
instr_view (variants.Br index) = record { opcode = 0x0C ∷ []; operands = Index index }
instr_view (variants.BrIf index) = record { opcode = 0x0D ∷ []; operands = Index index }
instr_view (variants.BrTable labels default) = record { opcode = 0x0E ∷ []; operands = LabelTable labels default }
instr_view variants.Return = record { opcode = 0x0F ∷ []; operands = NoOperands }
instr_view (variants.Call index) = record { opcode = 0x10 ∷ []; operands = Index index }
instr_view (variants.CallIndirect type_index table_index) = record { opcode = 0x11 ∷ []; operands = Indirect table_index type_index }
instr_view (variants.ReturnCall index) = record { opcode = 0x12 ∷ []; operands = Index index }
instr_view (variants.ReturnCallIndirect type_index table_index) = record { opcode = 0x13 ∷ []; operands = Indirect table_index type_index }
instr_view (variants.CallRef index) = record { opcode = 0x14 ∷ []; operands = Index index }
instr_view (variants.ReturnCallRef index) = record { opcode = 0x15 ∷ []; operands = Index index }
instr_view (variants.Delegate index) = record { opcode = 0x18 ∷ []; operands = Index index }
instr_view variants.CatchAll = record { opcode = 0x19 ∷ []; operands = NoOperands }
instr_view variants.Drop = record { opcode = 0x1A ∷ []; operands = NoOperands }
instr_view variants.Select = record { opcode = 0x1B ∷ []; operands = NoOperands }
instr_view (variants.TypedSelect val_type) = record { opcode = 0x1C ∷ []; operands = ValTypes (val_view val_type ∷ []) }
instr_view (variants.TypedSelectMulti types) = record { opcode = 0x1C ∷ []; operands = ValTypes (map val_view types) }
instr_view (variants.TryTable block_type catches) = record { opcode = 0x1F ∷ []; operands = TryTable (block_view block_type) (map catch_view catches) }
instr_view (variants.LocalGet index) = record { opcode = 0x20 ∷ []; operands = Index index }
instr_view (variants.LocalSet index) = record { opcode = 0x21 ∷ []; operands = Index index }
instr_view (variants.LocalTee index) = record { opcode = 0x22 ∷ []; operands = Index index }
instr_view (variants.GlobalGet index) = record { opcode = 0x23 ∷ []; operands = Index index }
instr_view (variants.GlobalSet index) = record { opcode = 0x24 ∷ []; operands = Index index }
instr_view (variants.TableGet index) = record { opcode = 0x25 ∷ []; operands = Index index }
instr_view (variants.TableSet index) = record { opcode = 0x26 ∷ []; operands = Index index }
instr_view (variants.MemorySize index) = record { opcode = 0x3F ∷ []; operands = Index index }
instr_view (variants.MemoryGrow index) = record { opcode = 0x40 ∷ []; operands = Index index }
instr_view (variants.I32Const value) = record { opcode = 0x41 ∷ []; operands = I32 value }
instr_view (variants.I64Const value) = record { opcode = 0x42 ∷ []; operands = I64 value }
instr_view (variants.F32Const value) = record { opcode = 0x43 ∷ []; operands = F32 (ieee32_bits value) }
instr_view (variants.F64Const value) = record { opcode = 0x44 ∷ []; operands = F64 (ieee64_bits value) }
instr_view (variants.Compare op) = record { opcode = compare_opcode op; operands = NoOperands }
instr_view (variants.Numeric op) = record { opcode = numeric_opcode op; operands = NoOperands }
instr_view (variants.Convert op) = record { opcode = convert_opcode op; operands = NoOperands }
instr_view (variants.Vector op) = record { opcode = vector_opcode op; operands = NoOperands }
instr_view (variants.VectorNarrow op) = record { opcode = vector_narrow_opcode op; operands = NoOperands }
instr_view (variants.VectorWide op) = record { opcode = vector_wide_opcode op; operands = NoOperands }
instr_view (variants.VectorFloat op) = record { opcode = vector_float_opcode op; operands = NoOperands }
instr_view (variants.Access op memarg) = record { opcode = access_opcode op; operands = Memory (mem_arg_view memarg) }
instr_view variants.AtomicFence = record { opcode = 0xFE ∷ uleb 3; operands = Fence }
instr_view (variants.Atomic op memarg) = record { opcode = atomic_opcode op; operands = Memory (mem_arg_view memarg) }
instr_view (variants.AtomicRmw op memarg) = record { opcode = atomic_rmw_opcode op; operands = Memory (mem_arg_view memarg) }
instr_view (variants.Bulk op) = bulk_view op
instr_view (variants.Gc op) = gc_view op
instr_view (variants.VectorArg op) = vector_arg_view op

-- what `encode` asks: the logarithm of a memory argument's alignment is below 16
abbrev pub can_encode_instr : Instruction → Type 0
can_encode_instr i = is_aligned (instr_view i).operands

-- the counts of the instruction's operands are at most 4294967295
abbrev pub fits_instr : Instruction → Type 0
fits_instr i = counts_fit (instr_view i).operands
