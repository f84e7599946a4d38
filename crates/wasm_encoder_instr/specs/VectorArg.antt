-- Vector instructions with operands: opcodes FD. (WebAssembly 3.0, 5.4)
use Rattle.std.specs.Prelude.{◌<◌, ◌∷◌, ℕ, List, codes}
use Rattle.std.specs.Int.{w128, cast_unsigned}
use Rattle.wasm_encoder_base.specs.Leb.{uleb}
use Rattle.wasm_encoder_base.specs.Instr.{Instr, V128, Lane, Shuffle, Memory, MemoryLane}
use Rattle.wasm_encoder_instr.specs.MemArg.{mem_arg_view, is_aligned}
use Rattle.wasm_encoder_instr.specs.declared.vector_arg.VectorArgOp.{VectorArgOp}
use Rattle.wasm_encoder_instr.specs.declared.vector_arg.VectorArgOp.TheVariants as variants

-- the mnemonic of each
abbrev pub vector_arg_mnemonic : VectorArgOp → List ℕ
vector_arg_mnemonic (variants.V128Load memarg) = codes "v128.load"
vector_arg_mnemonic (variants.V128Load8x8S memarg) = codes "v128.load8x8_s"
vector_arg_mnemonic (variants.V128Load8x8U memarg) = codes "v128.load8x8_u"
vector_arg_mnemonic (variants.V128Load16x4S memarg) = codes "v128.load16x4_s"
vector_arg_mnemonic (variants.V128Load16x4U memarg) = codes "v128.load16x4_u"
vector_arg_mnemonic (variants.V128Load32x2S memarg) = codes "v128.load32x2_s"
vector_arg_mnemonic (variants.V128Load32x2U memarg) = codes "v128.load32x2_u"
vector_arg_mnemonic (variants.V128Load8Splat memarg) = codes "v128.load8_splat"
vector_arg_mnemonic (variants.V128Load16Splat memarg) = codes "v128.load16_splat"
vector_arg_mnemonic (variants.V128Load32Splat memarg) = codes "v128.load32_splat"
vector_arg_mnemonic (variants.V128Load64Splat memarg) = codes "v128.load64_splat"
vector_arg_mnemonic (variants.V128Store memarg) = codes "v128.store"
vector_arg_mnemonic (variants.V128Const value) = codes "v128.const"
vector_arg_mnemonic (variants.I8x16Shuffle lanes) = codes "i8x16.shuffle"
vector_arg_mnemonic (variants.I8x16ExtractLaneS lane) = codes "i8x16.extract_lane_s"
vector_arg_mnemonic (variants.I8x16ExtractLaneU lane) = codes "i8x16.extract_lane_u"
vector_arg_mnemonic (variants.I8x16ReplaceLane lane) = codes "i8x16.replace_lane"
vector_arg_mnemonic (variants.I16x8ExtractLaneS lane) = codes "i16x8.extract_lane_s"
vector_arg_mnemonic (variants.I16x8ExtractLaneU lane) = codes "i16x8.extract_lane_u"
vector_arg_mnemonic (variants.I16x8ReplaceLane lane) = codes "i16x8.replace_lane"
vector_arg_mnemonic (variants.I32x4ExtractLane lane) = codes "i32x4.extract_lane"
vector_arg_mnemonic (variants.I32x4ReplaceLane lane) = codes "i32x4.replace_lane"
vector_arg_mnemonic (variants.I64x2ExtractLane lane) = codes "i64x2.extract_lane"
vector_arg_mnemonic (variants.I64x2ReplaceLane lane) = codes "i64x2.replace_lane"
vector_arg_mnemonic (variants.F32x4ExtractLane lane) = codes "f32x4.extract_lane"
vector_arg_mnemonic (variants.F32x4ReplaceLane lane) = codes "f32x4.replace_lane"
vector_arg_mnemonic (variants.F64x2ExtractLane lane) = codes "f64x2.extract_lane"
vector_arg_mnemonic (variants.F64x2ReplaceLane lane) = codes "f64x2.replace_lane"
vector_arg_mnemonic (variants.V128Load8Lane memarg lane) = codes "v128.load8_lane"
vector_arg_mnemonic (variants.V128Load16Lane memarg lane) = codes "v128.load16_lane"
vector_arg_mnemonic (variants.V128Load32Lane memarg lane) = codes "v128.load32_lane"
vector_arg_mnemonic (variants.V128Load64Lane memarg lane) = codes "v128.load64_lane"
vector_arg_mnemonic (variants.V128Store8Lane memarg lane) = codes "v128.store8_lane"
vector_arg_mnemonic (variants.V128Store16Lane memarg lane) = codes "v128.store16_lane"
vector_arg_mnemonic (variants.V128Store32Lane memarg lane) = codes "v128.store32_lane"
vector_arg_mnemonic (variants.V128Store64Lane memarg lane) = codes "v128.store64_lane"
vector_arg_mnemonic (variants.V128Load32Zero memarg) = codes "v128.load32_zero"
vector_arg_mnemonic (variants.V128Load64Zero memarg) = codes "v128.load64_zero"

-- the opcode and the operands of each, these in the order of the bytes
abbrev pub vector_arg_view : VectorArgOp → Instr
vector_arg_view (variants.V128Load memarg) = record { opcode = 0xFD ∷ uleb 0; operands = Memory (mem_arg_view memarg) }
vector_arg_view (variants.V128Load8x8S memarg) = record { opcode = 0xFD ∷ uleb 1; operands = Memory (mem_arg_view memarg) }
vector_arg_view (variants.V128Load8x8U memarg) = record { opcode = 0xFD ∷ uleb 2; operands = Memory (mem_arg_view memarg) }
vector_arg_view (variants.V128Load16x4S memarg) = record { opcode = 0xFD ∷ uleb 3; operands = Memory (mem_arg_view memarg) }
vector_arg_view (variants.V128Load16x4U memarg) = record { opcode = 0xFD ∷ uleb 4; operands = Memory (mem_arg_view memarg) }
vector_arg_view (variants.V128Load32x2S memarg) = record { opcode = 0xFD ∷ uleb 5; operands = Memory (mem_arg_view memarg) }
vector_arg_view (variants.V128Load32x2U memarg) = record { opcode = 0xFD ∷ uleb 6; operands = Memory (mem_arg_view memarg) }
vector_arg_view (variants.V128Load8Splat memarg) = record { opcode = 0xFD ∷ uleb 7; operands = Memory (mem_arg_view memarg) }
vector_arg_view (variants.V128Load16Splat memarg) = record { opcode = 0xFD ∷ uleb 8; operands = Memory (mem_arg_view memarg) }
vector_arg_view (variants.V128Load32Splat memarg) = record { opcode = 0xFD ∷ uleb 9; operands = Memory (mem_arg_view memarg) }
vector_arg_view (variants.V128Load64Splat memarg) = record { opcode = 0xFD ∷ uleb 10; operands = Memory (mem_arg_view memarg) }
vector_arg_view (variants.V128Store memarg) = record { opcode = 0xFD ∷ uleb 11; operands = Memory (mem_arg_view memarg) }
vector_arg_view (variants.V128Const value) = record { opcode = 0xFD ∷ uleb 12; operands = V128 (cast_unsigned w128 value) }
vector_arg_view (variants.I8x16Shuffle lanes) = record { opcode = 0xFD ∷ uleb 13; operands = Shuffle lanes }
vector_arg_view (variants.I8x16ExtractLaneS lane) = record { opcode = 0xFD ∷ uleb 21; operands = Lane lane }
vector_arg_view (variants.I8x16ExtractLaneU lane) = record { opcode = 0xFD ∷ uleb 22; operands = Lane lane }
vector_arg_view (variants.I8x16ReplaceLane lane) = record { opcode = 0xFD ∷ uleb 23; operands = Lane lane }
vector_arg_view (variants.I16x8ExtractLaneS lane) = record { opcode = 0xFD ∷ uleb 24; operands = Lane lane }
vector_arg_view (variants.I16x8ExtractLaneU lane) = record { opcode = 0xFD ∷ uleb 25; operands = Lane lane }
vector_arg_view (variants.I16x8ReplaceLane lane) = record { opcode = 0xFD ∷ uleb 26; operands = Lane lane }
vector_arg_view (variants.I32x4ExtractLane lane) = record { opcode = 0xFD ∷ uleb 27; operands = Lane lane }
vector_arg_view (variants.I32x4ReplaceLane lane) = record { opcode = 0xFD ∷ uleb 28; operands = Lane lane }
vector_arg_view (variants.I64x2ExtractLane lane) = record { opcode = 0xFD ∷ uleb 29; operands = Lane lane }
vector_arg_view (variants.I64x2ReplaceLane lane) = record { opcode = 0xFD ∷ uleb 30; operands = Lane lane }
vector_arg_view (variants.F32x4ExtractLane lane) = record { opcode = 0xFD ∷ uleb 31; operands = Lane lane }
vector_arg_view (variants.F32x4ReplaceLane lane) = record { opcode = 0xFD ∷ uleb 32; operands = Lane lane }
vector_arg_view (variants.F64x2ExtractLane lane) = record { opcode = 0xFD ∷ uleb 33; operands = Lane lane }
vector_arg_view (variants.F64x2ReplaceLane lane) = record { opcode = 0xFD ∷ uleb 34; operands = Lane lane }
vector_arg_view (variants.V128Load8Lane memarg lane) = record { opcode = 0xFD ∷ uleb 84; operands = MemoryLane (mem_arg_view memarg) lane }
vector_arg_view (variants.V128Load16Lane memarg lane) = record { opcode = 0xFD ∷ uleb 85; operands = MemoryLane (mem_arg_view memarg) lane }
vector_arg_view (variants.V128Load32Lane memarg lane) = record { opcode = 0xFD ∷ uleb 86; operands = MemoryLane (mem_arg_view memarg) lane }
vector_arg_view (variants.V128Load64Lane memarg lane) = record { opcode = 0xFD ∷ uleb 87; operands = MemoryLane (mem_arg_view memarg) lane }
vector_arg_view (variants.V128Store8Lane memarg lane) = record { opcode = 0xFD ∷ uleb 88; operands = MemoryLane (mem_arg_view memarg) lane }
vector_arg_view (variants.V128Store16Lane memarg lane) = record { opcode = 0xFD ∷ uleb 89; operands = MemoryLane (mem_arg_view memarg) lane }
vector_arg_view (variants.V128Store32Lane memarg lane) = record { opcode = 0xFD ∷ uleb 90; operands = MemoryLane (mem_arg_view memarg) lane }
vector_arg_view (variants.V128Store64Lane memarg lane) = record { opcode = 0xFD ∷ uleb 91; operands = MemoryLane (mem_arg_view memarg) lane }
vector_arg_view (variants.V128Load32Zero memarg) = record { opcode = 0xFD ∷ uleb 92; operands = Memory (mem_arg_view memarg) }
vector_arg_view (variants.V128Load64Zero memarg) = record { opcode = 0xFD ∷ uleb 93; operands = Memory (mem_arg_view memarg) }

-- the logarithm of a memory argument's alignment is below 16
abbrev pub can_encode_vector_arg : VectorArgOp → Type 0
can_encode_vector_arg op = is_aligned (vector_arg_view op).operands
