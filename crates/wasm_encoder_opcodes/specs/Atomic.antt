-- Atomic waits, loads and stores: opcodes FE below 30. (WebAssembly 3.0, 5.4)
use Rattle.std.specs.Prelude.{ℕ, List, ◌∷◌, codes}
use Rattle.wasm_encoder_base.specs.Leb.{uleb}
use Rattle.wasm_encoder_opcodes.specs.declared.atomic.AtomicOp.{AtomicOp}
use Rattle.wasm_encoder_opcodes.specs.declared.atomic.AtomicOp.TheVariants.{MemoryAtomicNotify, MemoryAtomicWait32, MemoryAtomicWait64, I32AtomicLoad, I64AtomicLoad, I32AtomicLoad8U, I32AtomicLoad16U, I64AtomicLoad8U, I64AtomicLoad16U, I64AtomicLoad32U, I32AtomicStore, I64AtomicStore, I32AtomicStore8, I32AtomicStore16, I64AtomicStore8, I64AtomicStore16, I64AtomicStore32}

-- the mnemonic of each instruction
abbrev pub atomic_mnemonic : AtomicOp → List ℕ
atomic_mnemonic MemoryAtomicNotify = codes "memory.atomic.notify"
atomic_mnemonic MemoryAtomicWait32 = codes "memory.atomic.wait32"
atomic_mnemonic MemoryAtomicWait64 = codes "memory.atomic.wait64"
atomic_mnemonic I32AtomicLoad = codes "i32.atomic.load"
atomic_mnemonic I64AtomicLoad = codes "i64.atomic.load"
atomic_mnemonic I32AtomicLoad8U = codes "i32.atomic.load8_u"
atomic_mnemonic I32AtomicLoad16U = codes "i32.atomic.load16_u"
atomic_mnemonic I64AtomicLoad8U = codes "i64.atomic.load8_u"
atomic_mnemonic I64AtomicLoad16U = codes "i64.atomic.load16_u"
atomic_mnemonic I64AtomicLoad32U = codes "i64.atomic.load32_u"
atomic_mnemonic I32AtomicStore = codes "i32.atomic.store"
atomic_mnemonic I64AtomicStore = codes "i64.atomic.store"
atomic_mnemonic I32AtomicStore8 = codes "i32.atomic.store8"
atomic_mnemonic I32AtomicStore16 = codes "i32.atomic.store16"
atomic_mnemonic I64AtomicStore8 = codes "i64.atomic.store8"
atomic_mnemonic I64AtomicStore16 = codes "i64.atomic.store16"
atomic_mnemonic I64AtomicStore32 = codes "i64.atomic.store32"

-- its number
abbrev pub atomic_number : AtomicOp → ℕ
atomic_number MemoryAtomicNotify = 0
atomic_number MemoryAtomicWait32 = 1
atomic_number MemoryAtomicWait64 = 2
atomic_number I32AtomicLoad = 16
atomic_number I64AtomicLoad = 17
atomic_number I32AtomicLoad8U = 18
atomic_number I32AtomicLoad16U = 19
atomic_number I64AtomicLoad8U = 20
atomic_number I64AtomicLoad16U = 21
atomic_number I64AtomicLoad32U = 22
atomic_number I32AtomicStore = 23
atomic_number I64AtomicStore = 24
atomic_number I32AtomicStore8 = 25
atomic_number I32AtomicStore16 = 26
atomic_number I64AtomicStore8 = 27
atomic_number I64AtomicStore16 = 28
atomic_number I64AtomicStore32 = 29

-- its opcode: the number after the byte FE
abbrev pub atomic_opcode : AtomicOp → List ℕ
atomic_opcode op = 0xFE ∷ uleb (atomic_number op)
