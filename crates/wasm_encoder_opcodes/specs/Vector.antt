-- Vector instructions without operands: opcodes FD below 96. (WebAssembly 3.0, 5.4)
use Rattle.std.specs.Prelude.{ℕ, List, ◌∷◌, codes}
use Rattle.wasm_encoder_base.specs.Leb.{uleb}
use Rattle.wasm_encoder_opcodes.specs.declared.vector.VectorOp.{VectorOp}
use Rattle.wasm_encoder_opcodes.specs.declared.vector.VectorOp.TheVariants.{I8x16Swizzle, I8x16Splat, I16x8Splat, I32x4Splat, I64x2Splat, F32x4Splat, F64x2Splat, I8x16Eq, I8x16Ne, I8x16LtS, I8x16LtU, I8x16GtS, I8x16GtU, I8x16LeS, I8x16LeU, I8x16GeS, I8x16GeU, I16x8Eq, I16x8Ne, I16x8LtS, I16x8LtU, I16x8GtS, I16x8GtU, I16x8LeS, I16x8LeU, I16x8GeS, I16x8GeU, I32x4Eq, I32x4Ne, I32x4LtS, I32x4LtU, I32x4GtS, I32x4GtU, I32x4LeS, I32x4LeU, I32x4GeS, I32x4GeU, F32x4Eq, F32x4Ne, F32x4Lt, F32x4Gt, F32x4Le, F32x4Ge, F64x2Eq, F64x2Ne, F64x2Lt, F64x2Gt, F64x2Le, F64x2Ge, V128Not, V128And, V128AndNot, V128Or, V128Xor, V128Bitselect, V128AnyTrue, F32x4DemoteF64x2Zero, F64x2PromoteLowF32x4}

-- the mnemonic of each instruction
abbrev pub vector_mnemonic : VectorOp → List ℕ
vector_mnemonic I8x16Swizzle = codes "i8x16.swizzle"
vector_mnemonic I8x16Splat = codes "i8x16.splat"
vector_mnemonic I16x8Splat = codes "i16x8.splat"
vector_mnemonic I32x4Splat = codes "i32x4.splat"
vector_mnemonic I64x2Splat = codes "i64x2.splat"
vector_mnemonic F32x4Splat = codes "f32x4.splat"
vector_mnemonic F64x2Splat = codes "f64x2.splat"
vector_mnemonic I8x16Eq = codes "i8x16.eq"
vector_mnemonic I8x16Ne = codes "i8x16.ne"
vector_mnemonic I8x16LtS = codes "i8x16.lt_s"
vector_mnemonic I8x16LtU = codes "i8x16.lt_u"
vector_mnemonic I8x16GtS = codes "i8x16.gt_s"
vector_mnemonic I8x16GtU = codes "i8x16.gt_u"
vector_mnemonic I8x16LeS = codes "i8x16.le_s"
vector_mnemonic I8x16LeU = codes "i8x16.le_u"
vector_mnemonic I8x16GeS = codes "i8x16.ge_s"
vector_mnemonic I8x16GeU = codes "i8x16.ge_u"
vector_mnemonic I16x8Eq = codes "i16x8.eq"
vector_mnemonic I16x8Ne = codes "i16x8.ne"
vector_mnemonic I16x8LtS = codes "i16x8.lt_s"
vector_mnemonic I16x8LtU = codes "i16x8.lt_u"
vector_mnemonic I16x8GtS = codes "i16x8.gt_s"
vector_mnemonic I16x8GtU = codes "i16x8.gt_u"
vector_mnemonic I16x8LeS = codes "i16x8.le_s"
vector_mnemonic I16x8LeU = codes "i16x8.le_u"
vector_mnemonic I16x8GeS = codes "i16x8.ge_s"
vector_mnemonic I16x8GeU = codes "i16x8.ge_u"
vector_mnemonic I32x4Eq = codes "i32x4.eq"
vector_mnemonic I32x4Ne = codes "i32x4.ne"
vector_mnemonic I32x4LtS = codes "i32x4.lt_s"
vector_mnemonic I32x4LtU = codes "i32x4.lt_u"
vector_mnemonic I32x4GtS = codes "i32x4.gt_s"
vector_mnemonic I32x4GtU = codes "i32x4.gt_u"
vector_mnemonic I32x4LeS = codes "i32x4.le_s"
vector_mnemonic I32x4LeU = codes "i32x4.le_u"
vector_mnemonic I32x4GeS = codes "i32x4.ge_s"
vector_mnemonic I32x4GeU = codes "i32x4.ge_u"
vector_mnemonic F32x4Eq = codes "f32x4.eq"
vector_mnemonic F32x4Ne = codes "f32x4.ne"
vector_mnemonic F32x4Lt = codes "f32x4.lt"
vector_mnemonic F32x4Gt = codes "f32x4.gt"
vector_mnemonic F32x4Le = codes "f32x4.le"
vector_mnemonic F32x4Ge = codes "f32x4.ge"
vector_mnemonic F64x2Eq = codes "f64x2.eq"
vector_mnemonic F64x2Ne = codes "f64x2.ne"
vector_mnemonic F64x2Lt = codes "f64x2.lt"
vector_mnemonic F64x2Gt = codes "f64x2.gt"
vector_mnemonic F64x2Le = codes "f64x2.le"
vector_mnemonic F64x2Ge = codes "f64x2.ge"
vector_mnemonic V128Not = codes "v128.not"
vector_mnemonic V128And = codes "v128.and"
vector_mnemonic V128AndNot = codes "v128.andnot"
vector_mnemonic V128Or = codes "v128.or"
vector_mnemonic V128Xor = codes "v128.xor"
vector_mnemonic V128Bitselect = codes "v128.bitselect"
vector_mnemonic V128AnyTrue = codes "v128.any_true"
vector_mnemonic F32x4DemoteF64x2Zero = codes "f32x4.demote_f64x2_zero"
vector_mnemonic F64x2PromoteLowF32x4 = codes "f64x2.promote_low_f32x4"

-- its number
abbrev pub vector_number : VectorOp → ℕ
vector_number I8x16Swizzle = 14
vector_number I8x16Splat = 15
vector_number I16x8Splat = 16
vector_number I32x4Splat = 17
vector_number I64x2Splat = 18
vector_number F32x4Splat = 19
vector_number F64x2Splat = 20
vector_number I8x16Eq = 35
vector_number I8x16Ne = 36
vector_number I8x16LtS = 37
vector_number I8x16LtU = 38
vector_number I8x16GtS = 39
vector_number I8x16GtU = 40
vector_number I8x16LeS = 41
vector_number I8x16LeU = 42
vector_number I8x16GeS = 43
vector_number I8x16GeU = 44
vector_number I16x8Eq = 45
vector_number I16x8Ne = 46
vector_number I16x8LtS = 47
vector_number I16x8LtU = 48
vector_number I16x8GtS = 49
vector_number I16x8GtU = 50
vector_number I16x8LeS = 51
vector_number I16x8LeU = 52
vector_number I16x8GeS = 53
vector_number I16x8GeU = 54
vector_number I32x4Eq = 55
vector_number I32x4Ne = 56
vector_number I32x4LtS = 57
vector_number I32x4LtU = 58
vector_number I32x4GtS = 59
vector_number I32x4GtU = 60
vector_number I32x4LeS = 61
vector_number I32x4LeU = 62
vector_number I32x4GeS = 63
vector_number I32x4GeU = 64
vector_number F32x4Eq = 65
vector_number F32x4Ne = 66
vector_number F32x4Lt = 67
vector_number F32x4Gt = 68
vector_number F32x4Le = 69
vector_number F32x4Ge = 70
vector_number F64x2Eq = 71
vector_number F64x2Ne = 72
vector_number F64x2Lt = 73
vector_number F64x2Gt = 74
vector_number F64x2Le = 75
vector_number F64x2Ge = 76
vector_number V128Not = 77
vector_number V128And = 78
vector_number V128AndNot = 79
vector_number V128Or = 80
vector_number V128Xor = 81
vector_number V128Bitselect = 82
vector_number V128AnyTrue = 83
vector_number F32x4DemoteF64x2Zero = 94
vector_number F64x2PromoteLowF32x4 = 95

-- its opcode: the number after the byte FD
abbrev pub vector_opcode : VectorOp → List ℕ
vector_opcode op = 0xFD ∷ uleb (vector_number op)
