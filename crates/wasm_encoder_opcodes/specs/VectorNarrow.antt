-- Vector instructions without operands: opcodes FD 96 to 159. (WebAssembly 3.0, 5.4)
use Rattle.std.specs.Prelude.{ℕ, List, ◌∷◌, codes}
use Rattle.wasm_encoder_base.specs.Leb.{uleb}
use Rattle.wasm_encoder_opcodes.specs.declared.vector_narrow.VectorNarrowOp.{VectorNarrowOp}
use Rattle.wasm_encoder_opcodes.specs.declared.vector_narrow.VectorNarrowOp.TheVariants.{I8x16Abs, I8x16Neg, I8x16Popcnt, I8x16AllTrue, I8x16Bitmask, I8x16NarrowI16x8S, I8x16NarrowI16x8U, F32x4Ceil, F32x4Floor, F32x4Trunc, F32x4Nearest, I8x16Shl, I8x16ShrS, I8x16ShrU, I8x16Add, I8x16AddSatS, I8x16AddSatU, I8x16Sub, I8x16SubSatS, I8x16SubSatU, F64x2Ceil, F64x2Floor, I8x16MinS, I8x16MinU, I8x16MaxS, I8x16MaxU, F64x2Trunc, I8x16AvgrU, I16x8ExtAddPairwiseI8x16S, I16x8ExtAddPairwiseI8x16U, I32x4ExtAddPairwiseI16x8S, I32x4ExtAddPairwiseI16x8U, I16x8Abs, I16x8Neg, I16x8Q15MulrSatS, I16x8AllTrue, I16x8Bitmask, I16x8NarrowI32x4S, I16x8NarrowI32x4U, I16x8ExtendLowI8x16S, I16x8ExtendHighI8x16S, I16x8ExtendLowI8x16U, I16x8ExtendHighI8x16U, I16x8Shl, I16x8ShrS, I16x8ShrU, I16x8Add, I16x8AddSatS, I16x8AddSatU, I16x8Sub, I16x8SubSatS, I16x8SubSatU, F64x2Nearest, I16x8Mul, I16x8MinS, I16x8MinU, I16x8MaxS, I16x8MaxU, I16x8AvgrU, I16x8ExtMulLowI8x16S, I16x8ExtMulHighI8x16S, I16x8ExtMulLowI8x16U, I16x8ExtMulHighI8x16U}

-- the mnemonic of each instruction
abbrev pub vector_narrow_mnemonic : VectorNarrowOp → List ℕ
vector_narrow_mnemonic I8x16Abs = codes "i8x16.abs"
vector_narrow_mnemonic I8x16Neg = codes "i8x16.neg"
vector_narrow_mnemonic I8x16Popcnt = codes "i8x16.popcnt"
vector_narrow_mnemonic I8x16AllTrue = codes "i8x16.all_true"
vector_narrow_mnemonic I8x16Bitmask = codes "i8x16.bitmask"
vector_narrow_mnemonic I8x16NarrowI16x8S = codes "i8x16.narrow_i16x8_s"
vector_narrow_mnemonic I8x16NarrowI16x8U = codes "i8x16.narrow_i16x8_u"
vector_narrow_mnemonic F32x4Ceil = codes "f32x4.ceil"
vector_narrow_mnemonic F32x4Floor = codes "f32x4.floor"
vector_narrow_mnemonic F32x4Trunc = codes "f32x4.trunc"
vector_narrow_mnemonic F32x4Nearest = codes "f32x4.nearest"
vector_narrow_mnemonic I8x16Shl = codes "i8x16.shl"
vector_narrow_mnemonic I8x16ShrS = codes "i8x16.shr_s"
vector_narrow_mnemonic I8x16ShrU = codes "i8x16.shr_u"
vector_narrow_mnemonic I8x16Add = codes "i8x16.add"
vector_narrow_mnemonic I8x16AddSatS = codes "i8x16.add_sat_s"
vector_narrow_mnemonic I8x16AddSatU = codes "i8x16.add_sat_u"
vector_narrow_mnemonic I8x16Sub = codes "i8x16.sub"
vector_narrow_mnemonic I8x16SubSatS = codes "i8x16.sub_sat_s"
vector_narrow_mnemonic I8x16SubSatU = codes "i8x16.sub_sat_u"
vector_narrow_mnemonic F64x2Ceil = codes "f64x2.ceil"
vector_narrow_mnemonic F64x2Floor = codes "f64x2.floor"
vector_narrow_mnemonic I8x16MinS = codes "i8x16.min_s"
vector_narrow_mnemonic I8x16MinU = codes "i8x16.min_u"
vector_narrow_mnemonic I8x16MaxS = codes "i8x16.max_s"
vector_narrow_mnemonic I8x16MaxU = codes "i8x16.max_u"
vector_narrow_mnemonic F64x2Trunc = codes "f64x2.trunc"
vector_narrow_mnemonic I8x16AvgrU = codes "i8x16.avgr_u"
vector_narrow_mnemonic I16x8ExtAddPairwiseI8x16S = codes "i16x8.extadd_pairwise_i8x16_s"
vector_narrow_mnemonic I16x8ExtAddPairwiseI8x16U = codes "i16x8.extadd_pairwise_i8x16_u"
vector_narrow_mnemonic I32x4ExtAddPairwiseI16x8S = codes "i32x4.extadd_pairwise_i16x8_s"
vector_narrow_mnemonic I32x4ExtAddPairwiseI16x8U = codes "i32x4.extadd_pairwise_i16x8_u"
vector_narrow_mnemonic I16x8Abs = codes "i16x8.abs"
vector_narrow_mnemonic I16x8Neg = codes "i16x8.neg"
vector_narrow_mnemonic I16x8Q15MulrSatS = codes "i16x8.q15mulr_sat_s"
vector_narrow_mnemonic I16x8AllTrue = codes "i16x8.all_true"
vector_narrow_mnemonic I16x8Bitmask = codes "i16x8.bitmask"
vector_narrow_mnemonic I16x8NarrowI32x4S = codes "i16x8.narrow_i32x4_s"
vector_narrow_mnemonic I16x8NarrowI32x4U = codes "i16x8.narrow_i32x4_u"
vector_narrow_mnemonic I16x8ExtendLowI8x16S = codes "i16x8.extend_low_i8x16_s"
vector_narrow_mnemonic I16x8ExtendHighI8x16S = codes "i16x8.extend_high_i8x16_s"
vector_narrow_mnemonic I16x8ExtendLowI8x16U = codes "i16x8.extend_low_i8x16_u"
vector_narrow_mnemonic I16x8ExtendHighI8x16U = codes "i16x8.extend_high_i8x16_u"
vector_narrow_mnemonic I16x8Shl = codes "i16x8.shl"
vector_narrow_mnemonic I16x8ShrS = codes "i16x8.shr_s"
vector_narrow_mnemonic I16x8ShrU = codes "i16x8.shr_u"
vector_narrow_mnemonic I16x8Add = codes "i16x8.add"
vector_narrow_mnemonic I16x8AddSatS = codes "i16x8.add_sat_s"
vector_narrow_mnemonic I16x8AddSatU = codes "i16x8.add_sat_u"
vector_narrow_mnemonic I16x8Sub = codes "i16x8.sub"
vector_narrow_mnemonic I16x8SubSatS = codes "i16x8.sub_sat_s"
vector_narrow_mnemonic I16x8SubSatU = codes "i16x8.sub_sat_u"
vector_narrow_mnemonic F64x2Nearest = codes "f64x2.nearest"
vector_narrow_mnemonic I16x8Mul = codes "i16x8.mul"
vector_narrow_mnemonic I16x8MinS = codes "i16x8.min_s"
vector_narrow_mnemonic I16x8MinU = codes "i16x8.min_u"
vector_narrow_mnemonic I16x8MaxS = codes "i16x8.max_s"
vector_narrow_mnemonic I16x8MaxU = codes "i16x8.max_u"
vector_narrow_mnemonic I16x8AvgrU = codes "i16x8.avgr_u"
vector_narrow_mnemonic I16x8ExtMulLowI8x16S = codes "i16x8.extmul_low_i8x16_s"
vector_narrow_mnemonic I16x8ExtMulHighI8x16S = codes "i16x8.extmul_high_i8x16_s"
vector_narrow_mnemonic I16x8ExtMulLowI8x16U = codes "i16x8.extmul_low_i8x16_u"
vector_narrow_mnemonic I16x8ExtMulHighI8x16U = codes "i16x8.extmul_high_i8x16_u"

-- its number
abbrev pub vector_narrow_number : VectorNarrowOp → ℕ
vector_narrow_number I8x16Abs = 96
vector_narrow_number I8x16Neg = 97
vector_narrow_number I8x16Popcnt = 98
vector_narrow_number I8x16AllTrue = 99
vector_narrow_number I8x16Bitmask = 100
vector_narrow_number I8x16NarrowI16x8S = 101
vector_narrow_number I8x16NarrowI16x8U = 102
vector_narrow_number F32x4Ceil = 103
vector_narrow_number F32x4Floor = 104
vector_narrow_number F32x4Trunc = 105
vector_narrow_number F32x4Nearest = 106
vector_narrow_number I8x16Shl = 107
vector_narrow_number I8x16ShrS = 108
vector_narrow_number I8x16ShrU = 109
vector_narrow_number I8x16Add = 110
vector_narrow_number I8x16AddSatS = 111
vector_narrow_number I8x16AddSatU = 112
vector_narrow_number I8x16Sub = 113
vector_narrow_number I8x16SubSatS = 114
vector_narrow_number I8x16SubSatU = 115
vector_narrow_number F64x2Ceil = 116
vector_narrow_number F64x2Floor = 117
vector_narrow_number I8x16MinS = 118
vector_narrow_number I8x16MinU = 119
vector_narrow_number I8x16MaxS = 120
vector_narrow_number I8x16MaxU = 121
vector_narrow_number F64x2Trunc = 122
vector_narrow_number I8x16AvgrU = 123
vector_narrow_number I16x8ExtAddPairwiseI8x16S = 124
vector_narrow_number I16x8ExtAddPairwiseI8x16U = 125
vector_narrow_number I32x4ExtAddPairwiseI16x8S = 126
vector_narrow_number I32x4ExtAddPairwiseI16x8U = 127
vector_narrow_number I16x8Abs = 128
vector_narrow_number I16x8Neg = 129
vector_narrow_number I16x8Q15MulrSatS = 130
vector_narrow_number I16x8AllTrue = 131
vector_narrow_number I16x8Bitmask = 132
vector_narrow_number I16x8NarrowI32x4S = 133
vector_narrow_number I16x8NarrowI32x4U = 134
vector_narrow_number I16x8ExtendLowI8x16S = 135
vector_narrow_number I16x8ExtendHighI8x16S = 136
vector_narrow_number I16x8ExtendLowI8x16U = 137
vector_narrow_number I16x8ExtendHighI8x16U = 138
vector_narrow_number I16x8Shl = 139
vector_narrow_number I16x8ShrS = 140
vector_narrow_number I16x8ShrU = 141
vector_narrow_number I16x8Add = 142
vector_narrow_number I16x8AddSatS = 143
vector_narrow_number I16x8AddSatU = 144
vector_narrow_number I16x8Sub = 145
vector_narrow_number I16x8SubSatS = 146
vector_narrow_number I16x8SubSatU = 147
vector_narrow_number F64x2Nearest = 148
vector_narrow_number I16x8Mul = 149
vector_narrow_number I16x8MinS = 150
vector_narrow_number I16x8MinU = 151
vector_narrow_number I16x8MaxS = 152
vector_narrow_number I16x8MaxU = 153
vector_narrow_number I16x8AvgrU = 155
vector_narrow_number I16x8ExtMulLowI8x16S = 156
vector_narrow_number I16x8ExtMulHighI8x16S = 157
vector_narrow_number I16x8ExtMulLowI8x16U = 158
vector_narrow_number I16x8ExtMulHighI8x16U = 159

-- its opcode: the number after the byte FD
abbrev pub vector_narrow_opcode : VectorNarrowOp → List ℕ
vector_narrow_opcode op = 0xFD ∷ uleb (vector_narrow_number op)
