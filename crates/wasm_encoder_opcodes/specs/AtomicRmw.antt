-- Atomic instructions that read, change and write: opcodes FE from 30 on. (WebAssembly 3.0, 5.4)
use Rattle.std.specs.Prelude.{ℕ, List, ◌∷◌, codes}
use Rattle.wasm_encoder_base.specs.Leb.{uleb}
use Rattle.wasm_encoder_opcodes.specs.declared.atomic_rmw.AtomicRmwOp.{AtomicRmwOp}
use Rattle.wasm_encoder_opcodes.specs.declared.atomic_rmw.AtomicRmwOp.TheVariants.{I32AtomicRmwAdd, I64AtomicRmwAdd, I32AtomicRmw8AddU, I32AtomicRmw16AddU, I64AtomicRmw8AddU, I64AtomicRmw16AddU, I64AtomicRmw32AddU, I32AtomicRmwSub, I64AtomicRmwSub, I32AtomicRmw8SubU, I32AtomicRmw16SubU, I64AtomicRmw8SubU, I64AtomicRmw16SubU, I64AtomicRmw32SubU, I32AtomicRmwAnd, I64AtomicRmwAnd, I32AtomicRmw8AndU, I32AtomicRmw16AndU, I64AtomicRmw8AndU, I64AtomicRmw16AndU, I64AtomicRmw32AndU, I32AtomicRmwOr, I64AtomicRmwOr, I32AtomicRmw8OrU, I32AtomicRmw16OrU, I64AtomicRmw8OrU, I64AtomicRmw16OrU, I64AtomicRmw32OrU, I32AtomicRmwXor, I64AtomicRmwXor, I32AtomicRmw8XorU, I32AtomicRmw16XorU, I64AtomicRmw8XorU, I64AtomicRmw16XorU, I64AtomicRmw32XorU, I32AtomicRmwXchg, I64AtomicRmwXchg, I32AtomicRmw8XchgU, I32AtomicRmw16XchgU, I64AtomicRmw8XchgU, I64AtomicRmw16XchgU, I64AtomicRmw32XchgU, I32AtomicRmwCmpxchg, I64AtomicRmwCmpxchg, I32AtomicRmw8CmpxchgU, I32AtomicRmw16CmpxchgU, I64AtomicRmw8CmpxchgU, I64AtomicRmw16CmpxchgU, I64AtomicRmw32CmpxchgU}

-- the mnemonic of each instruction
abbrev pub atomic_rmw_mnemonic : AtomicRmwOp → List ℕ
atomic_rmw_mnemonic I32AtomicRmwAdd = codes "i32.atomic.rmw.add"
atomic_rmw_mnemonic I64AtomicRmwAdd = codes "i64.atomic.rmw.add"
atomic_rmw_mnemonic I32AtomicRmw8AddU = codes "i32.atomic.rmw8.add_u"
atomic_rmw_mnemonic I32AtomicRmw16AddU = codes "i32.atomic.rmw16.add_u"
atomic_rmw_mnemonic I64AtomicRmw8AddU = codes "i64.atomic.rmw8.add_u"
atomic_rmw_mnemonic I64AtomicRmw16AddU = codes "i64.atomic.rmw16.add_u"
atomic_rmw_mnemonic I64AtomicRmw32AddU = codes "i64.atomic.rmw32.add_u"
atomic_rmw_mnemonic I32AtomicRmwSub = codes "i32.atomic.rmw.sub"
atomic_rmw_mnemonic I64AtomicRmwSub = codes "i64.atomic.rmw.sub"
atomic_rmw_mnemonic I32AtomicRmw8SubU = codes "i32.atomic.rmw8.sub_u"
atomic_rmw_mnemonic I32AtomicRmw16SubU = codes "i32.atomic.rmw16.sub_u"
atomic_rmw_mnemonic I64AtomicRmw8SubU = codes "i64.atomic.rmw8.sub_u"
atomic_rmw_mnemonic I64AtomicRmw16SubU = codes "i64.atomic.rmw16.sub_u"
atomic_rmw_mnemonic I64AtomicRmw32SubU = codes "i64.atomic.rmw32.sub_u"
atomic_rmw_mnemonic I32AtomicRmwAnd = codes "i32.atomic.rmw.and"
atomic_rmw_mnemonic I64AtomicRmwAnd = codes "i64.atomic.rmw.and"
atomic_rmw_mnemonic I32AtomicRmw8AndU = codes "i32.atomic.rmw8.and_u"
atomic_rmw_mnemonic I32AtomicRmw16AndU = codes "i32.atomic.rmw16.and_u"
atomic_rmw_mnemonic I64AtomicRmw8AndU = codes "i64.atomic.rmw8.and_u"
atomic_rmw_mnemonic I64AtomicRmw16AndU = codes "i64.atomic.rmw16.and_u"
atomic_rmw_mnemonic I64AtomicRmw32AndU = codes "i64.atomic.rmw32.and_u"
atomic_rmw_mnemonic I32AtomicRmwOr = codes "i32.atomic.rmw.or"
atomic_rmw_mnemonic I64AtomicRmwOr = codes "i64.atomic.rmw.or"
atomic_rmw_mnemonic I32AtomicRmw8OrU = codes "i32.atomic.rmw8.or_u"
atomic_rmw_mnemonic I32AtomicRmw16OrU = codes "i32.atomic.rmw16.or_u"
atomic_rmw_mnemonic I64AtomicRmw8OrU = codes "i64.atomic.rmw8.or_u"
atomic_rmw_mnemonic I64AtomicRmw16OrU = codes "i64.atomic.rmw16.or_u"
atomic_rmw_mnemonic I64AtomicRmw32OrU = codes "i64.atomic.rmw32.or_u"
atomic_rmw_mnemonic I32AtomicRmwXor = codes "i32.atomic.rmw.xor"
atomic_rmw_mnemonic I64AtomicRmwXor = codes "i64.atomic.rmw.xor"
atomic_rmw_mnemonic I32AtomicRmw8XorU = codes "i32.atomic.rmw8.xor_u"
atomic_rmw_mnemonic I32AtomicRmw16XorU = codes "i32.atomic.rmw16.xor_u"
atomic_rmw_mnemonic I64AtomicRmw8XorU = codes "i64.atomic.rmw8.xor_u"
atomic_rmw_mnemonic I64AtomicRmw16XorU = codes "i64.atomic.rmw16.xor_u"
atomic_rmw_mnemonic I64AtomicRmw32XorU = codes "i64.atomic.rmw32.xor_u"
atomic_rmw_mnemonic I32AtomicRmwXchg = codes "i32.atomic.rmw.xchg"
atomic_rmw_mnemonic I64AtomicRmwXchg = codes "i64.atomic.rmw.xchg"
atomic_rmw_mnemonic I32AtomicRmw8XchgU = codes "i32.atomic.rmw8.xchg_u"
atomic_rmw_mnemonic I32AtomicRmw16XchgU = codes "i32.atomic.rmw16.xchg_u"
atomic_rmw_mnemonic I64AtomicRmw8XchgU = codes "i64.atomic.rmw8.xchg_u"
atomic_rmw_mnemonic I64AtomicRmw16XchgU = codes "i64.atomic.rmw16.xchg_u"
atomic_rmw_mnemonic I64AtomicRmw32XchgU = codes "i64.atomic.rmw32.xchg_u"
atomic_rmw_mnemonic I32AtomicRmwCmpxchg = codes "i32.atomic.rmw.cmpxchg"
atomic_rmw_mnemonic I64AtomicRmwCmpxchg = codes "i64.atomic.rmw.cmpxchg"
atomic_rmw_mnemonic I32AtomicRmw8CmpxchgU = codes "i32.atomic.rmw8.cmpxchg_u"
atomic_rmw_mnemonic I32AtomicRmw16CmpxchgU = codes "i32.atomic.rmw16.cmpxchg_u"
atomic_rmw_mnemonic I64AtomicRmw8CmpxchgU = codes "i64.atomic.rmw8.cmpxchg_u"
atomic_rmw_mnemonic I64AtomicRmw16CmpxchgU = codes "i64.atomic.rmw16.cmpxchg_u"
atomic_rmw_mnemonic I64AtomicRmw32CmpxchgU = codes "i64.atomic.rmw32.cmpxchg_u"

-- its number
abbrev pub atomic_rmw_number : AtomicRmwOp → ℕ
atomic_rmw_number I32AtomicRmwAdd = 30
atomic_rmw_number I64AtomicRmwAdd = 31
atomic_rmw_number I32AtomicRmw8AddU = 32
atomic_rmw_number I32AtomicRmw16AddU = 33
atomic_rmw_number I64AtomicRmw8AddU = 34
atomic_rmw_number I64AtomicRmw16AddU = 35
atomic_rmw_number I64AtomicRmw32AddU = 36
atomic_rmw_number I32AtomicRmwSub = 37
atomic_rmw_number I64AtomicRmwSub = 38
atomic_rmw_number I32AtomicRmw8SubU = 39
atomic_rmw_number I32AtomicRmw16SubU = 40
atomic_rmw_number I64AtomicRmw8SubU = 41
atomic_rmw_number I64AtomicRmw16SubU = 42
atomic_rmw_number I64AtomicRmw32SubU = 43
atomic_rmw_number I32AtomicRmwAnd = 44
atomic_rmw_number I64AtomicRmwAnd = 45
atomic_rmw_number I32AtomicRmw8AndU = 46
atomic_rmw_number I32AtomicRmw16AndU = 47
atomic_rmw_number I64AtomicRmw8AndU = 48
atomic_rmw_number I64AtomicRmw16AndU = 49
atomic_rmw_number I64AtomicRmw32AndU = 50
atomic_rmw_number I32AtomicRmwOr = 51
atomic_rmw_number I64AtomicRmwOr = 52
atomic_rmw_number I32AtomicRmw8OrU = 53
atomic_rmw_number I32AtomicRmw16OrU = 54
atomic_rmw_number I64AtomicRmw8OrU = 55
atomic_rmw_number I64AtomicRmw16OrU = 56
atomic_rmw_number I64AtomicRmw32OrU = 57
atomic_rmw_number I32AtomicRmwXor = 58
atomic_rmw_number I64AtomicRmwXor = 59
atomic_rmw_number I32AtomicRmw8XorU = 60
atomic_rmw_number I32AtomicRmw16XorU = 61
atomic_rmw_number I64AtomicRmw8XorU = 62
atomic_rmw_number I64AtomicRmw16XorU = 63
atomic_rmw_number I64AtomicRmw32XorU = 64
atomic_rmw_number I32AtomicRmwXchg = 65
atomic_rmw_number I64AtomicRmwXchg = 66
atomic_rmw_number I32AtomicRmw8XchgU = 67
atomic_rmw_number I32AtomicRmw16XchgU = 68
atomic_rmw_number I64AtomicRmw8XchgU = 69
atomic_rmw_number I64AtomicRmw16XchgU = 70
atomic_rmw_number I64AtomicRmw32XchgU = 71
atomic_rmw_number I32AtomicRmwCmpxchg = 72
atomic_rmw_number I64AtomicRmwCmpxchg = 73
atomic_rmw_number I32AtomicRmw8CmpxchgU = 74
atomic_rmw_number I32AtomicRmw16CmpxchgU = 75
atomic_rmw_number I64AtomicRmw8CmpxchgU = 76
atomic_rmw_number I64AtomicRmw16CmpxchgU = 77
atomic_rmw_number I64AtomicRmw32CmpxchgU = 78

-- its opcode: the number after the byte FE
abbrev pub atomic_rmw_opcode : AtomicRmwOp → List ℕ
atomic_rmw_opcode op = 0xFE ∷ uleb (atomic_rmw_number op)
