-- Vector instructions without operands: opcodes FD 160 to 223. (WebAssembly 3.0, 5.4)
use Rattle.std.specs.Prelude.{ℕ, List, ◌∷◌, codes}
use Rattle.wasm_encoder_base.specs.Leb.{uleb}
use Rattle.wasm_encoder_opcodes.specs.declared.vector_wide.VectorWideOp.{VectorWideOp}
use Rattle.wasm_encoder_opcodes.specs.declared.vector_wide.VectorWideOp.TheVariants.{I32x4Abs, I32x4Neg, I32x4AllTrue, I32x4Bitmask, I32x4ExtendLowI16x8S, I32x4ExtendHighI16x8S, I32x4ExtendLowI16x8U, I32x4ExtendHighI16x8U, I32x4Shl, I32x4ShrS, I32x4ShrU, I32x4Add, I32x4Sub, I32x4Mul, I32x4MinS, I32x4MinU, I32x4MaxS, I32x4MaxU, I32x4DotI16x8S, I32x4ExtMulLowI16x8S, I32x4ExtMulHighI16x8S, I32x4ExtMulLowI16x8U, I32x4ExtMulHighI16x8U, I64x2Abs, I64x2Neg, I64x2AllTrue, I64x2Bitmask, I64x2ExtendLowI32x4S, I64x2ExtendHighI32x4S, I64x2ExtendLowI32x4U, I64x2ExtendHighI32x4U, I64x2Shl, I64x2ShrS, I64x2ShrU, I64x2Add, I64x2Sub, I64x2Mul, I64x2Eq, I64x2Ne, I64x2LtS, I64x2GtS, I64x2LeS, I64x2GeS, I64x2ExtMulLowI32x4S, I64x2ExtMulHighI32x4S, I64x2ExtMulLowI32x4U, I64x2ExtMulHighI32x4U}

-- the mnemonic of each instruction
abbrev pub vector_wide_mnemonic : VectorWideOp → List ℕ
vector_wide_mnemonic I32x4Abs = codes "i32x4.abs"
vector_wide_mnemonic I32x4Neg = codes "i32x4.neg"
vector_wide_mnemonic I32x4AllTrue = codes "i32x4.all_true"
vector_wide_mnemonic I32x4Bitmask = codes "i32x4.bitmask"
vector_wide_mnemonic I32x4ExtendLowI16x8S = codes "i32x4.extend_low_i16x8_s"
vector_wide_mnemonic I32x4ExtendHighI16x8S = codes "i32x4.extend_high_i16x8_s"
vector_wide_mnemonic I32x4ExtendLowI16x8U = codes "i32x4.extend_low_i16x8_u"
vector_wide_mnemonic I32x4ExtendHighI16x8U = codes "i32x4.extend_high_i16x8_u"
vector_wide_mnemonic I32x4Shl = codes "i32x4.shl"
vector_wide_mnemonic I32x4ShrS = codes "i32x4.shr_s"
vector_wide_mnemonic I32x4ShrU = codes "i32x4.shr_u"
vector_wide_mnemonic I32x4Add = codes "i32x4.add"
vector_wide_mnemonic I32x4Sub = codes "i32x4.sub"
vector_wide_mnemonic I32x4Mul = codes "i32x4.mul"
vector_wide_mnemonic I32x4MinS = codes "i32x4.min_s"
vector_wide_mnemonic I32x4MinU = codes "i32x4.min_u"
vector_wide_mnemonic I32x4MaxS = codes "i32x4.max_s"
vector_wide_mnemonic I32x4MaxU = codes "i32x4.max_u"
vector_wide_mnemonic I32x4DotI16x8S = codes "i32x4.dot_i16x8_s"
vector_wide_mnemonic I32x4ExtMulLowI16x8S = codes "i32x4.extmul_low_i16x8_s"
vector_wide_mnemonic I32x4ExtMulHighI16x8S = codes "i32x4.extmul_high_i16x8_s"
vector_wide_mnemonic I32x4ExtMulLowI16x8U = codes "i32x4.extmul_low_i16x8_u"
vector_wide_mnemonic I32x4ExtMulHighI16x8U = codes "i32x4.extmul_high_i16x8_u"
vector_wide_mnemonic I64x2Abs = codes "i64x2.abs"
vector_wide_mnemonic I64x2Neg = codes "i64x2.neg"
vector_wide_mnemonic I64x2AllTrue = codes "i64x2.all_true"
vector_wide_mnemonic I64x2Bitmask = codes "i64x2.bitmask"
vector_wide_mnemonic I64x2ExtendLowI32x4S = codes "i64x2.extend_low_i32x4_s"
vector_wide_mnemonic I64x2ExtendHighI32x4S = codes "i64x2.extend_high_i32x4_s"
vector_wide_mnemonic I64x2ExtendLowI32x4U = codes "i64x2.extend_low_i32x4_u"
vector_wide_mnemonic I64x2ExtendHighI32x4U = codes "i64x2.extend_high_i32x4_u"
vector_wide_mnemonic I64x2Shl = codes "i64x2.shl"
vector_wide_mnemonic I64x2ShrS = codes "i64x2.shr_s"
vector_wide_mnemonic I64x2ShrU = codes "i64x2.shr_u"
vector_wide_mnemonic I64x2Add = codes "i64x2.add"
vector_wide_mnemonic I64x2Sub = codes "i64x2.sub"
vector_wide_mnemonic I64x2Mul = codes "i64x2.mul"
vector_wide_mnemonic I64x2Eq = codes "i64x2.eq"
vector_wide_mnemonic I64x2Ne = codes "i64x2.ne"
vector_wide_mnemonic I64x2LtS = codes "i64x2.lt_s"
vector_wide_mnemonic I64x2GtS = codes "i64x2.gt_s"
vector_wide_mnemonic I64x2LeS = codes "i64x2.le_s"
vector_wide_mnemonic I64x2GeS = codes "i64x2.ge_s"
vector_wide_mnemonic I64x2ExtMulLowI32x4S = codes "i64x2.extmul_low_i32x4_s"
vector_wide_mnemonic I64x2ExtMulHighI32x4S = codes "i64x2.extmul_high_i32x4_s"
vector_wide_mnemonic I64x2ExtMulLowI32x4U = codes "i64x2.extmul_low_i32x4_u"
vector_wide_mnemonic I64x2ExtMulHighI32x4U = codes "i64x2.extmul_high_i32x4_u"

-- its number
abbrev pub vector_wide_number : VectorWideOp → ℕ
vector_wide_number I32x4Abs = 160
vector_wide_number I32x4Neg = 161
vector_wide_number I32x4AllTrue = 163
vector_wide_number I32x4Bitmask = 164
vector_wide_number I32x4ExtendLowI16x8S = 167
vector_wide_number I32x4ExtendHighI16x8S = 168
vector_wide_number I32x4ExtendLowI16x8U = 169
vector_wide_number I32x4ExtendHighI16x8U = 170
vector_wide_number I32x4Shl = 171
vector_wide_number I32x4ShrS = 172
vector_wide_number I32x4ShrU = 173
vector_wide_number I32x4Add = 174
vector_wide_number I32x4Sub = 177
vector_wide_number I32x4Mul = 181
vector_wide_number I32x4MinS = 182
vector_wide_number I32x4MinU = 183
vector_wide_number I32x4MaxS = 184
vector_wide_number I32x4MaxU = 185
vector_wide_number I32x4DotI16x8S = 186
vector_wide_number I32x4ExtMulLowI16x8S = 188
vector_wide_number I32x4ExtMulHighI16x8S = 189
vector_wide_number I32x4ExtMulLowI16x8U = 190
vector_wide_number I32x4ExtMulHighI16x8U = 191
vector_wide_number I64x2Abs = 192
vector_wide_number I64x2Neg = 193
vector_wide_number I64x2AllTrue = 195
vector_wide_number I64x2Bitmask = 196
vector_wide_number I64x2ExtendLowI32x4S = 199
vector_wide_number I64x2ExtendHighI32x4S = 200
vector_wide_number I64x2ExtendLowI32x4U = 201
vector_wide_number I64x2ExtendHighI32x4U = 202
vector_wide_number I64x2Shl = 203
vector_wide_number I64x2ShrS = 204
vector_wide_number I64x2ShrU = 205
vector_wide_number I64x2Add = 206
vector_wide_number I64x2Sub = 209
vector_wide_number I64x2Mul = 213
vector_wide_number I64x2Eq = 214
vector_wide_number I64x2Ne = 215
vector_wide_number I64x2LtS = 216
vector_wide_number I64x2GtS = 217
vector_wide_number I64x2LeS = 218
vector_wide_number I64x2GeS = 219
vector_wide_number I64x2ExtMulLowI32x4S = 220
vector_wide_number I64x2ExtMulHighI32x4S = 221
vector_wide_number I64x2ExtMulLowI32x4U = 222
vector_wide_number I64x2ExtMulHighI32x4U = 223

-- its opcode: the number after the byte FD
abbrev pub vector_wide_opcode : VectorWideOp → List ℕ
vector_wide_opcode op = 0xFD ∷ uleb (vector_wide_number op)
