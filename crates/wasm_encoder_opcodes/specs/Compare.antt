-- Comparisons of numbers: opcodes 45 to 66. (WebAssembly 3.0, 5.4)
use Rattle.std.specs.Prelude.{ℕ, List, [], ◌∷◌, codes}
use Rattle.wasm_encoder_opcodes.specs.declared.compare.CompareOp.{CompareOp}
use Rattle.wasm_encoder_opcodes.specs.declared.compare.CompareOp.TheVariants.{I32Eqz, I32Eq, I32Ne, I32LtS, I32LtU, I32GtS, I32GtU, I32LeS, I32LeU, I32GeS, I32GeU, I64Eqz, I64Eq, I64Ne, I64LtS, I64LtU, I64GtS, I64GtU, I64LeS, I64LeU, I64GeS, I64GeU, F32Eq, F32Ne, F32Lt, F32Gt, F32Le, F32Ge, F64Eq, F64Ne, F64Lt, F64Gt, F64Le, F64Ge}

-- the mnemonic of each instruction
abbrev pub compare_mnemonic : CompareOp → List ℕ
compare_mnemonic I32Eqz = codes "i32.eqz"
compare_mnemonic I32Eq = codes "i32.eq"
compare_mnemonic I32Ne = codes "i32.ne"
compare_mnemonic I32LtS = codes "i32.lt_s"
compare_mnemonic I32LtU = codes "i32.lt_u"
compare_mnemonic I32GtS = codes "i32.gt_s"
compare_mnemonic I32GtU = codes "i32.gt_u"
compare_mnemonic I32LeS = codes "i32.le_s"
compare_mnemonic I32LeU = codes "i32.le_u"
compare_mnemonic I32GeS = codes "i32.ge_s"
compare_mnemonic I32GeU = codes "i32.ge_u"
compare_mnemonic I64Eqz = codes "i64.eqz"
compare_mnemonic I64Eq = codes "i64.eq"
compare_mnemonic I64Ne = codes "i64.ne"
compare_mnemonic I64LtS = codes "i64.lt_s"
compare_mnemonic I64LtU = codes "i64.lt_u"
compare_mnemonic I64GtS = codes "i64.gt_s"
compare_mnemonic I64GtU = codes "i64.gt_u"
compare_mnemonic I64LeS = codes "i64.le_s"
compare_mnemonic I64LeU = codes "i64.le_u"
compare_mnemonic I64GeS = codes "i64.ge_s"
compare_mnemonic I64GeU = codes "i64.ge_u"
compare_mnemonic F32Eq = codes "f32.eq"
compare_mnemonic F32Ne = codes "f32.ne"
compare_mnemonic F32Lt = codes "f32.lt"
compare_mnemonic F32Gt = codes "f32.gt"
compare_mnemonic F32Le = codes "f32.le"
compare_mnemonic F32Ge = codes "f32.ge"
compare_mnemonic F64Eq = codes "f64.eq"
compare_mnemonic F64Ne = codes "f64.ne"
compare_mnemonic F64Lt = codes "f64.lt"
compare_mnemonic F64Gt = codes "f64.gt"
compare_mnemonic F64Le = codes "f64.le"
compare_mnemonic F64Ge = codes "f64.ge"

-- its number
abbrev pub compare_number : CompareOp → ℕ
compare_number I32Eqz = 0x45
compare_number I32Eq = 0x46
compare_number I32Ne = 0x47
compare_number I32LtS = 0x48
compare_number I32LtU = 0x49
compare_number I32GtS = 0x4A
compare_number I32GtU = 0x4B
compare_number I32LeS = 0x4C
compare_number I32LeU = 0x4D
compare_number I32GeS = 0x4E
compare_number I32GeU = 0x4F
compare_number I64Eqz = 0x50
compare_number I64Eq = 0x51
compare_number I64Ne = 0x52
compare_number I64LtS = 0x53
compare_number I64LtU = 0x54
compare_number I64GtS = 0x55
compare_number I64GtU = 0x56
compare_number I64LeS = 0x57
compare_number I64LeU = 0x58
compare_number I64GeS = 0x59
compare_number I64GeU = 0x5A
compare_number F32Eq = 0x5B
compare_number F32Ne = 0x5C
compare_number F32Lt = 0x5D
compare_number F32Gt = 0x5E
compare_number F32Le = 0x5F
compare_number F32Ge = 0x60
compare_number F64Eq = 0x61
compare_number F64Ne = 0x62
compare_number F64Lt = 0x63
compare_number F64Gt = 0x64
compare_number F64Le = 0x65
compare_number F64Ge = 0x66

-- its opcode
abbrev pub compare_opcode : CompareOp → List ℕ
compare_opcode op = compare_number op ∷ []
