-- A type and instructions, and their bytes, by hand.
use Rattle.std.specs.Prelude.{ℕ, ◌≡◌, List, [], ◌∷◌, true, false}
use Rattle.wasm_encoder_base.specs.Types.{Abstract, AnyHeap, EqHeap, I32Type, I64Type, F32Type, func_bytes}
use Rattle.wasm_encoder_base.specs.Instr.{Instr, NoResult, CatchTag, CatchAllRef, Indirect, Init, LabelTable, TryTable, Cast, F32, Memory, IsInstr, instr_bytes}

-- (func (param i32 i64) (result f32))
abbrev pub FunctionType : Type 0
FunctionType = func_bytes (record { params = I32Type ∷ I64Type ∷ []; results = F32Type ∷ [] }) ≡ 0x60 ∷ 0x02 ∷ 0x7F ∷ 0x7E ∷ 0x01 ∷ 0x7D ∷ []

-- the instruction has these bytes
pub record IsSpelled (i : Instr) (bytes : List ℕ) : Type 0 where
  pub is : IsInstr i
  pub spelled : instr_bytes i ≡ bytes

-- call_indirect 2 (type 1)
abbrev pub CallIndirect : Type 0
CallIndirect = IsSpelled (record { opcode = 0x11 ∷ []; operands = Indirect 2 1 }) (0x11 ∷ 0x01 ∷ 0x02 ∷ [])

-- memory.init 1 2: the segment stands before the memory
abbrev pub MemoryInit : Type 0
MemoryInit = IsSpelled (record { opcode = 0xFC ∷ 0x08 ∷ []; operands = Init 1 2 }) (0xFC ∷ 0x08 ∷ 0x02 ∷ 0x01 ∷ [])

-- br_table 1 2 3
abbrev pub BrTable : Type 0
BrTable = IsSpelled (record { opcode = 0x0E ∷ []; operands = LabelTable (1 ∷ 2 ∷ []) 3 }) (0x0E ∷ 0x02 ∷ 0x01 ∷ 0x02 ∷ 0x03 ∷ [])

-- i32.load 1 offset=8 align=4
abbrev pub Load : Type 0
Load = IsSpelled (record { opcode = 0x28 ∷ []; operands = Memory (record { align = 2; offset = 8; memory = 1 }) }) (0x28 ∷ 0x42 ∷ 0x01 ∷ 0x08 ∷ [])

-- br_on_cast 1 (ref null any) (ref eq)
abbrev pub BrOnCast : Type 0
BrOnCast = IsSpelled
    (record { opcode = 0xFB ∷ 0x18 ∷ []; operands = Cast 1 (record { nullable = true; heap_type = Abstract AnyHeap }) (record { nullable = false; heap_type = Abstract EqHeap }) })
    (0xFB ∷ 0x18 ∷ 0x01 ∷ 0x01 ∷ 0x6E ∷ 0x6D ∷ [])

-- try_table (catch 5 1) (catch_all_ref 0)
abbrev pub Try : Type 0
Try = IsSpelled (record { opcode = 0x1F ∷ []; operands = TryTable NoResult (CatchTag 5 1 ∷ CatchAllRef 0 ∷ []) }) (0x1F ∷ 0x40 ∷ 0x02 ∷ 0x00 ∷ 0x05 ∷ 0x01 ∷ 0x03 ∷ 0x00 ∷ [])

-- f32.const 1
abbrev pub Float : Type 0
Float = IsSpelled (record { opcode = 0x43 ∷ []; operands = F32 0x3F800000 }) (0x43 ∷ 0x00 ∷ 0x00 ∷ 0x80 ∷ 0x3F ∷ [])
