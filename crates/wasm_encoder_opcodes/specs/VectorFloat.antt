-- Vector instructions without operands: opcodes FD from 224 on. (WebAssembly 3.0, 5.4)
use Rattle.std.specs.Prelude.{ℕ, List, ◌∷◌, codes}
use Rattle.wasm_encoder_base.specs.Leb.{uleb}
use Rattle.wasm_encoder_opcodes.specs.declared.vector_float.VectorFloatOp.{VectorFloatOp}
use Rattle.wasm_encoder_opcodes.specs.declared.vector_float.VectorFloatOp.TheVariants.{F32x4Abs, F32x4Neg, F32x4Sqrt, F32x4Add, F32x4Sub, F32x4Mul, F32x4Div, F32x4Min, F32x4Max, F32x4PMin, F32x4PMax, F64x2Abs, F64x2Neg, F64x2Sqrt, F64x2Add, F64x2Sub, F64x2Mul, F64x2Div, F64x2Min, F64x2Max, F64x2PMin, F64x2PMax, I32x4TruncSatF32x4S, I32x4TruncSatF32x4U, F32x4ConvertI32x4S, F32x4ConvertI32x4U, I32x4TruncSatF64x2SZero, I32x4TruncSatF64x2UZero, F64x2ConvertLowI32x4S, F64x2ConvertLowI32x4U, I8x16RelaxedSwizzle, I32x4RelaxedTruncF32x4S, I32x4RelaxedTruncF32x4U, I32x4RelaxedTruncF64x2SZero, I32x4RelaxedTruncF64x2UZero, F32x4RelaxedMadd, F32x4RelaxedNmadd, F64x2RelaxedMadd, F64x2RelaxedNmadd, I8x16RelaxedLaneselect, I16x8RelaxedLaneselect, I32x4RelaxedLaneselect, I64x2RelaxedLaneselect, F32x4RelaxedMin, F32x4RelaxedMax, F64x2RelaxedMin, F64x2RelaxedMax, I16x8RelaxedQ15mulrS, I16x8RelaxedDotI8x16I7x16S, I32x4RelaxedDotI8x16I7x16AddS}

-- the mnemonic of each instruction
abbrev pub vector_float_mnemonic : VectorFloatOp → List ℕ
vector_float_mnemonic F32x4Abs = codes "f32x4.abs"
vector_float_mnemonic F32x4Neg = codes "f32x4.neg"
vector_float_mnemonic F32x4Sqrt = codes "f32x4.sqrt"
vector_float_mnemonic F32x4Add = codes "f32x4.add"
vector_float_mnemonic F32x4Sub = codes "f32x4.sub"
vector_float_mnemonic F32x4Mul = codes "f32x4.mul"
vector_float_mnemonic F32x4Div = codes "f32x4.div"
vector_float_mnemonic F32x4Min = codes "f32x4.min"
vector_float_mnemonic F32x4Max = codes "f32x4.max"
vector_float_mnemonic F32x4PMin = codes "f32x4.pmin"
vector_float_mnemonic F32x4PMax = codes "f32x4.pmax"
vector_float_mnemonic F64x2Abs = codes "f64x2.abs"
vector_float_mnemonic F64x2Neg = codes "f64x2.neg"
vector_float_mnemonic F64x2Sqrt = codes "f64x2.sqrt"
vector_float_mnemonic F64x2Add = codes "f64x2.add"
vector_float_mnemonic F64x2Sub = codes "f64x2.sub"
vector_float_mnemonic F64x2Mul = codes "f64x2.mul"
vector_float_mnemonic F64x2Div = codes "f64x2.div"
vector_float_mnemonic F64x2Min = codes "f64x2.min"
vector_float_mnemonic F64x2Max = codes "f64x2.max"
vector_float_mnemonic F64x2PMin = codes "f64x2.pmin"
vector_float_mnemonic F64x2PMax = codes "f64x2.pmax"
vector_float_mnemonic I32x4TruncSatF32x4S = codes "i32x4.trunc_sat_f32x4_s"
vector_float_mnemonic I32x4TruncSatF32x4U = codes "i32x4.trunc_sat_f32x4_u"
vector_float_mnemonic F32x4ConvertI32x4S = codes "f32x4.convert_i32x4_s"
vector_float_mnemonic F32x4ConvertI32x4U = codes "f32x4.convert_i32x4_u"
vector_float_mnemonic I32x4TruncSatF64x2SZero = codes "i32x4.trunc_sat_f64x2_s_zero"
vector_float_mnemonic I32x4TruncSatF64x2UZero = codes "i32x4.trunc_sat_f64x2_u_zero"
vector_float_mnemonic F64x2ConvertLowI32x4S = codes "f64x2.convert_low_i32x4_s"
vector_float_mnemonic F64x2ConvertLowI32x4U = codes "f64x2.convert_low_i32x4_u"
vector_float_mnemonic I8x16RelaxedSwizzle = codes "i8x16.relaxed_swizzle"
vector_float_mnemonic I32x4RelaxedTruncF32x4S = codes "i32x4.relaxed_trunc_f32x4_s"
vector_float_mnemonic I32x4RelaxedTruncF32x4U = codes "i32x4.relaxed_trunc_f32x4_u"
vector_float_mnemonic I32x4RelaxedTruncF64x2SZero = codes "i32x4.relaxed_trunc_f64x2_s_zero"
vector_float_mnemonic I32x4RelaxedTruncF64x2UZero = codes "i32x4.relaxed_trunc_f64x2_u_zero"
vector_float_mnemonic F32x4RelaxedMadd = codes "f32x4.relaxed_madd"
vector_float_mnemonic F32x4RelaxedNmadd = codes "f32x4.relaxed_nmadd"
vector_float_mnemonic F64x2RelaxedMadd = codes "f64x2.relaxed_madd"
vector_float_mnemonic F64x2RelaxedNmadd = codes "f64x2.relaxed_nmadd"
vector_float_mnemonic I8x16RelaxedLaneselect = codes "i8x16.relaxed_laneselect"
vector_float_mnemonic I16x8RelaxedLaneselect = codes "i16x8.relaxed_laneselect"
vector_float_mnemonic I32x4RelaxedLaneselect = codes "i32x4.relaxed_laneselect"
vector_float_mnemonic I64x2RelaxedLaneselect = codes "i64x2.relaxed_laneselect"
vector_float_mnemonic F32x4RelaxedMin = codes "f32x4.relaxed_min"
vector_float_mnemonic F32x4RelaxedMax = codes "f32x4.relaxed_max"
vector_float_mnemonic F64x2RelaxedMin = codes "f64x2.relaxed_min"
vector_float_mnemonic F64x2RelaxedMax = codes "f64x2.relaxed_max"
vector_float_mnemonic I16x8RelaxedQ15mulrS = codes "i16x8.relaxed_q15mulr_s"
vector_float_mnemonic I16x8RelaxedDotI8x16I7x16S = codes "i16x8.relaxed_dot_i8x16_i7x16_s"
vector_float_mnemonic I32x4RelaxedDotI8x16I7x16AddS = codes "i32x4.relaxed_dot_i8x16_i7x16_add_s"

-- its number
abbrev pub vector_float_number : VectorFloatOp → ℕ
vector_float_number F32x4Abs = 224
vector_float_number F32x4Neg = 225
vector_float_number F32x4Sqrt = 227
vector_float_number F32x4Add = 228
vector_float_number F32x4Sub = 229
vector_float_number F32x4Mul = 230
vector_float_number F32x4Div = 231
vector_float_number F32x4Min = 232
vector_float_number F32x4Max = 233
vector_float_number F32x4PMin = 234
vector_float_number F32x4PMax = 235
vector_float_number F64x2Abs = 236
vector_float_number F64x2Neg = 237
vector_float_number F64x2Sqrt = 239
vector_float_number F64x2Add = 240
vector_float_number F64x2Sub = 241
vector_float_number F64x2Mul = 242
vector_float_number F64x2Div = 243
vector_float_number F64x2Min = 244
vector_float_number F64x2Max = 245
vector_float_number F64x2PMin = 246
vector_float_number F64x2PMax = 247
vector_float_number I32x4TruncSatF32x4S = 248
vector_float_number I32x4TruncSatF32x4U = 249
vector_float_number F32x4ConvertI32x4S = 250
vector_float_number F32x4ConvertI32x4U = 251
vector_float_number I32x4TruncSatF64x2SZero = 252
vector_float_number I32x4TruncSatF64x2UZero = 253
vector_float_number F64x2ConvertLowI32x4S = 254
vector_float_number F64x2ConvertLowI32x4U = 255
vector_float_number I8x16RelaxedSwizzle = 256
vector_float_number I32x4RelaxedTruncF32x4S = 257
vector_float_number I32x4RelaxedTruncF32x4U = 258
vector_float_number I32x4RelaxedTruncF64x2SZero = 259
vector_float_number I32x4RelaxedTruncF64x2UZero = 260
vector_float_number F32x4RelaxedMadd = 261
vector_float_number F32x4RelaxedNmadd = 262
vector_float_number F64x2RelaxedMadd = 263
vector_float_number F64x2RelaxedNmadd = 264
vector_float_number I8x16RelaxedLaneselect = 265
vector_float_number I16x8RelaxedLaneselect = 266
vector_float_number I32x4RelaxedLaneselect = 267
vector_float_number I64x2RelaxedLaneselect = 268
vector_float_number F32x4RelaxedMin = 269
vector_float_number F32x4RelaxedMax = 270
vector_float_number F64x2RelaxedMin = 271
vector_float_number F64x2RelaxedMax = 272
vector_float_number I16x8RelaxedQ15mulrS = 273
vector_float_number I16x8RelaxedDotI8x16I7x16S = 274
vector_float_number I32x4RelaxedDotI8x16I7x16AddS = 275

-- its opcode: the number after the byte FD
abbrev pub vector_float_opcode : VectorFloatOp → List ℕ
vector_float_opcode op = 0xFD ∷ uleb (vector_float_number op)
