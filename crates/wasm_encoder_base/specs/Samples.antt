-- Entries of the table of instructions, by hand: one or more of each operand syntax, space and natural alignment.
use Rattle.std.specs.Prelude.{ℕ, ◌≡◌, List, [], ◌∷◌, codes, map}
use Prim.Native.String.{String}
use Rattle.wasm_encoder_base.specs.Table.{Entry, entry, table, entries_of, OperandSyntax, Plain, Name, Block, TryTable, Index, Indices, IndexCount, BrTable, Indirect, OptionalIndex, Copy, Init, Heap, Ref, RefNull, Cast, I32, I64, F32, F64, V128, Results, Lane, Shuffle, Mem, MemLane, Fence, Labels, Locals, Functions, Types, Tables, Memories, Globals, Tags, Datas, Elems, Fields}

abbrev sample : String → OperandSyntax → List ℕ → Entry
sample text operands opcode = entry (codes text) operands opcode

abbrev pub samples : List Entry
samples =
    sample "nop" Plain (0x01 ∷ [])
    ∷ sample "i32.eq" Plain (0x46 ∷ [])
    ∷ sample "i32.ne" Plain (0x47 ∷ [])
    ∷ sample "i8x16.relaxed_swizzle" Plain (0xFD ∷ 0x80 ∷ 0x02 ∷ [])
    ∷ sample "else" Name (0x05 ∷ [])
    ∷ sample "end" Name (0x0B ∷ [])
    ∷ sample "loop" Block (0x03 ∷ [])
    ∷ sample "try_table" TryTable (0x1F ∷ [])
    ∷ sample "br" (Index Labels) (0x0C ∷ [])
    ∷ sample "local.tee" (Index Locals) (0x22 ∷ [])
    ∷ sample "call" (Index Functions) (0x10 ∷ [])
    ∷ sample "struct.new" (Index Types) (0xFB ∷ 0x00 ∷ [])
    ∷ sample "global.set" (Index Globals) (0x24 ∷ [])
    ∷ sample "throw" (Index Tags) (0x08 ∷ [])
    ∷ sample "data.drop" (Index Datas) (0xFC ∷ 0x09 ∷ [])
    ∷ sample "elem.drop" (Index Elems) (0xFC ∷ 0x0D ∷ [])
    ∷ sample "struct.get" (Indices Types Fields) (0xFB ∷ 0x02 ∷ [])
    ∷ sample "array.copy" (Indices Types Types) (0xFB ∷ 0x11 ∷ [])
    ∷ sample "array.new_data" (Indices Types Datas) (0xFB ∷ 0x09 ∷ [])
    ∷ sample "array.new_elem" (Indices Types Elems) (0xFB ∷ 0x0A ∷ [])
    ∷ sample "array.new_fixed" (IndexCount Types) (0xFB ∷ 0x08 ∷ [])
    ∷ sample "br_table" BrTable (0x0E ∷ [])
    ∷ sample "call_indirect" Indirect (0x11 ∷ [])
    ∷ sample "table.get" (OptionalIndex Tables) (0x25 ∷ [])
    ∷ sample "memory.grow" (OptionalIndex Memories) (0x40 ∷ [])
    ∷ sample "memory.copy" (Copy Memories) (0xFC ∷ 0x0A ∷ [])
    ∷ sample "table.copy" (Copy Tables) (0xFC ∷ 0x0E ∷ [])
    ∷ sample "memory.init" (Init Memories Datas) (0xFC ∷ 0x08 ∷ [])
    ∷ sample "table.init" (Init Tables Elems) (0xFC ∷ 0x0C ∷ [])
    ∷ sample "ref.null" Heap (0xD0 ∷ [])
    ∷ sample "br_on_cast" Cast (0xFB ∷ 0x18 ∷ [])
    ∷ sample "i32.const" I32 (0x41 ∷ [])
    ∷ sample "i64.const" I64 (0x42 ∷ [])
    ∷ sample "f32.const" F32 (0x43 ∷ [])
    ∷ sample "f64.const" F64 (0x44 ∷ [])
    ∷ sample "v128.const" V128 (0xFD ∷ 0x0C ∷ [])
    ∷ sample "i8x16.extract_lane_s" Lane (0xFD ∷ 0x15 ∷ [])
    ∷ sample "i8x16.shuffle" Shuffle (0xFD ∷ 0x0D ∷ [])
    ∷ sample "i32.load8_s" (Mem 1) (0x2C ∷ [])
    ∷ sample "i32.load16_u" (Mem 2) (0x2F ∷ [])
    ∷ sample "i32.load" (Mem 4) (0x28 ∷ [])
    ∷ sample "i64.load" (Mem 8) (0x29 ∷ [])
    ∷ sample "v128.load" (Mem 16) (0xFD ∷ 0x00 ∷ [])
    ∷ sample "i32.atomic.rmw.cmpxchg" (Mem 4) (0xFE ∷ 0x48 ∷ [])
    ∷ sample "v128.load8_lane" (MemLane 1) (0xFD ∷ 0x54 ∷ [])
    ∷ sample "v128.load16_lane" (MemLane 2) (0xFD ∷ 0x55 ∷ [])
    ∷ sample "v128.load32_lane" (MemLane 4) (0xFD ∷ 0x56 ∷ [])
    ∷ sample "v128.store64_lane" (MemLane 8) (0xFD ∷ 0x5B ∷ [])
    ∷ sample "atomic.fence" Fence (0xFE ∷ 0x03 ∷ [])
    ∷ []

-- Each of these is the one entry of its mnemonic.
abbrev pub SamplesListed : Type 0
SamplesListed = map (λ e. entries_of e.mnemonic table) samples ≡ map (λ e. e ∷ []) samples

-- The mnemonics with two entries.
pub record DoublesListed : Type 0 where
  pub select : entries_of (codes "select") table ≡ sample "select" Plain (0x1B ∷ []) ∷ sample "select" Results (0x1C ∷ []) ∷ []
  pub ref_test : entries_of (codes "ref.test") table ≡ sample "ref.test" Ref (0xFB ∷ 0x14 ∷ []) ∷ sample "ref.test" RefNull (0xFB ∷ 0x15 ∷ []) ∷ []
  pub ref_cast : entries_of (codes "ref.cast") table ≡ sample "ref.cast" Ref (0xFB ∷ 0x16 ∷ []) ∷ sample "ref.cast" RefNull (0xFB ∷ 0x17 ∷ []) ∷ []
