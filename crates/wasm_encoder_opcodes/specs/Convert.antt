-- Conversions of numbers, and the numbers of 128 bits: opcodes A7 to C4, and FC 0 to 7 and 19 to 22. (WebAssembly 3.0, 5.4)
use Rattle.std.specs.Prelude.{ℕ, List, [], ◌∷◌, nat_lt, if◌then◌else◌, codes}
use Rattle.wasm_encoder_base.specs.Leb.{uleb}
use Rattle.wasm_encoder_opcodes.specs.declared.convert.ConvertOp.{ConvertOp}
use Rattle.wasm_encoder_opcodes.specs.declared.convert.ConvertOp.TheVariants.{I32WrapI64, I32TruncF32S, I32TruncF32U, I32TruncF64S, I32TruncF64U, I64ExtendI32S, I64ExtendI32U, I64TruncF32S, I64TruncF32U, I64TruncF64S, I64TruncF64U, F32ConvertI32S, F32ConvertI32U, F32ConvertI64S, F32ConvertI64U, F32DemoteF64, F64ConvertI32S, F64ConvertI32U, F64ConvertI64S, F64ConvertI64U, F64PromoteF32, I32ReinterpretF32, I64ReinterpretF64, F32ReinterpretI32, F64ReinterpretI64, I32Extend8S, I32Extend16S, I64Extend8S, I64Extend16S, I64Extend32S, I32TruncSatF32S, I32TruncSatF32U, I32TruncSatF64S, I32TruncSatF64U, I64TruncSatF32S, I64TruncSatF32U, I64TruncSatF64S, I64TruncSatF64U, I64Add128, I64Sub128, I64MulWideS, I64MulWideU}

-- the mnemonic of each instruction
abbrev pub convert_mnemonic : ConvertOp → List ℕ
convert_mnemonic I32WrapI64 = codes "i32.wrap_i64"
convert_mnemonic I32TruncF32S = codes "i32.trunc_f32_s"
convert_mnemonic I32TruncF32U = codes "i32.trunc_f32_u"
convert_mnemonic I32TruncF64S = codes "i32.trunc_f64_s"
convert_mnemonic I32TruncF64U = codes "i32.trunc_f64_u"
convert_mnemonic I64ExtendI32S = codes "i64.extend_i32_s"
convert_mnemonic I64ExtendI32U = codes "i64.extend_i32_u"
convert_mnemonic I64TruncF32S = codes "i64.trunc_f32_s"
convert_mnemonic I64TruncF32U = codes "i64.trunc_f32_u"
convert_mnemonic I64TruncF64S = codes "i64.trunc_f64_s"
convert_mnemonic I64TruncF64U = codes "i64.trunc_f64_u"
convert_mnemonic F32ConvertI32S = codes "f32.convert_i32_s"
convert_mnemonic F32ConvertI32U = codes "f32.convert_i32_u"
convert_mnemonic F32ConvertI64S = codes "f32.convert_i64_s"
convert_mnemonic F32ConvertI64U = codes "f32.convert_i64_u"
convert_mnemonic F32DemoteF64 = codes "f32.demote_f64"
convert_mnemonic F64ConvertI32S = codes "f64.convert_i32_s"
convert_mnemonic F64ConvertI32U = codes "f64.convert_i32_u"
convert_mnemonic F64ConvertI64S = codes "f64.convert_i64_s"
convert_mnemonic F64ConvertI64U = codes "f64.convert_i64_u"
convert_mnemonic F64PromoteF32 = codes "f64.promote_f32"
convert_mnemonic I32ReinterpretF32 = codes "i32.reinterpret_f32"
convert_mnemonic I64ReinterpretF64 = codes "i64.reinterpret_f64"
convert_mnemonic F32ReinterpretI32 = codes "f32.reinterpret_i32"
convert_mnemonic F64ReinterpretI64 = codes "f64.reinterpret_i64"
convert_mnemonic I32Extend8S = codes "i32.extend8_s"
convert_mnemonic I32Extend16S = codes "i32.extend16_s"
convert_mnemonic I64Extend8S = codes "i64.extend8_s"
convert_mnemonic I64Extend16S = codes "i64.extend16_s"
convert_mnemonic I64Extend32S = codes "i64.extend32_s"
convert_mnemonic I32TruncSatF32S = codes "i32.trunc_sat_f32_s"
convert_mnemonic I32TruncSatF32U = codes "i32.trunc_sat_f32_u"
convert_mnemonic I32TruncSatF64S = codes "i32.trunc_sat_f64_s"
convert_mnemonic I32TruncSatF64U = codes "i32.trunc_sat_f64_u"
convert_mnemonic I64TruncSatF32S = codes "i64.trunc_sat_f32_s"
convert_mnemonic I64TruncSatF32U = codes "i64.trunc_sat_f32_u"
convert_mnemonic I64TruncSatF64S = codes "i64.trunc_sat_f64_s"
convert_mnemonic I64TruncSatF64U = codes "i64.trunc_sat_f64_u"
convert_mnemonic I64Add128 = codes "i64.add128"
convert_mnemonic I64Sub128 = codes "i64.sub128"
convert_mnemonic I64MulWideS = codes "i64.mul_wide_s"
convert_mnemonic I64MulWideU = codes "i64.mul_wide_u"

-- its number
abbrev pub convert_number : ConvertOp → ℕ
convert_number I32WrapI64 = 0xA7
convert_number I32TruncF32S = 0xA8
convert_number I32TruncF32U = 0xA9
convert_number I32TruncF64S = 0xAA
convert_number I32TruncF64U = 0xAB
convert_number I64ExtendI32S = 0xAC
convert_number I64ExtendI32U = 0xAD
convert_number I64TruncF32S = 0xAE
convert_number I64TruncF32U = 0xAF
convert_number I64TruncF64S = 0xB0
convert_number I64TruncF64U = 0xB1
convert_number F32ConvertI32S = 0xB2
convert_number F32ConvertI32U = 0xB3
convert_number F32ConvertI64S = 0xB4
convert_number F32ConvertI64U = 0xB5
convert_number F32DemoteF64 = 0xB6
convert_number F64ConvertI32S = 0xB7
convert_number F64ConvertI32U = 0xB8
convert_number F64ConvertI64S = 0xB9
convert_number F64ConvertI64U = 0xBA
convert_number F64PromoteF32 = 0xBB
convert_number I32ReinterpretF32 = 0xBC
convert_number I64ReinterpretF64 = 0xBD
convert_number F32ReinterpretI32 = 0xBE
convert_number F64ReinterpretI64 = 0xBF
convert_number I32Extend8S = 0xC0
convert_number I32Extend16S = 0xC1
convert_number I64Extend8S = 0xC2
convert_number I64Extend16S = 0xC3
convert_number I64Extend32S = 0xC4
convert_number I32TruncSatF32S = 0
convert_number I32TruncSatF32U = 1
convert_number I32TruncSatF64S = 2
convert_number I32TruncSatF64U = 3
convert_number I64TruncSatF32S = 4
convert_number I64TruncSatF32U = 5
convert_number I64TruncSatF64S = 6
convert_number I64TruncSatF64U = 7
convert_number I64Add128 = 19
convert_number I64Sub128 = 20
convert_number I64MulWideS = 21
convert_number I64MulWideU = 22

-- its opcode: below A7 the number after the byte FC, else the number alone
abbrev pub convert_opcode : ConvertOp → List ℕ
convert_opcode op = if nat_lt (convert_number op) 0xA7 then 0xFC ∷ uleb (convert_number op) else convert_number op ∷ []
