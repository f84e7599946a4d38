-- Loads and stores of numbers: opcodes 28 to 3E. (WebAssembly 3.0, 5.4)
use Rattle.std.specs.Prelude.{ℕ, List, [], ◌∷◌, codes}
use Rattle.wasm_encoder_opcodes.specs.declared.access.AccessOp.{AccessOp}
use Rattle.wasm_encoder_opcodes.specs.declared.access.AccessOp.TheVariants.{I32Load, I64Load, F32Load, F64Load, I32Load8S, I32Load8U, I32Load16S, I32Load16U, I64Load8S, I64Load8U, I64Load16S, I64Load16U, I64Load32S, I64Load32U, I32Store, I64Store, F32Store, F64Store, I32Store8, I32Store16, I64Store8, I64Store16, I64Store32}

-- the mnemonic of each instruction
abbrev pub access_mnemonic : AccessOp → List ℕ
access_mnemonic I32Load = codes "i32.load"
access_mnemonic I64Load = codes "i64.load"
access_mnemonic F32Load = codes "f32.load"
access_mnemonic F64Load = codes "f64.load"
access_mnemonic I32Load8S = codes "i32.load8_s"
access_mnemonic I32Load8U = codes "i32.load8_u"
access_mnemonic I32Load16S = codes "i32.load16_s"
access_mnemonic I32Load16U = codes "i32.load16_u"
access_mnemonic I64Load8S = codes "i64.load8_s"
access_mnemonic I64Load8U = codes "i64.load8_u"
access_mnemonic I64Load16S = codes "i64.load16_s"
access_mnemonic I64Load16U = codes "i64.load16_u"
access_mnemonic I64Load32S = codes "i64.load32_s"
access_mnemonic I64Load32U = codes "i64.load32_u"
access_mnemonic I32Store = codes "i32.store"
access_mnemonic I64Store = codes "i64.store"
access_mnemonic F32Store = codes "f32.store"
access_mnemonic F64Store = codes "f64.store"
access_mnemonic I32Store8 = codes "i32.store8"
access_mnemonic I32Store16 = codes "i32.store16"
access_mnemonic I64Store8 = codes "i64.store8"
access_mnemonic I64Store16 = codes "i64.store16"
access_mnemonic I64Store32 = codes "i64.store32"

-- its number
abbrev pub access_number : AccessOp → ℕ
access_number I32Load = 0x28
access_number I64Load = 0x29
access_number F32Load = 0x2A
access_number F64Load = 0x2B
access_number I32Load8S = 0x2C
access_number I32Load8U = 0x2D
access_number I32Load16S = 0x2E
access_number I32Load16U = 0x2F
access_number I64Load8S = 0x30
access_number I64Load8U = 0x31
access_number I64Load16S = 0x32
access_number I64Load16U = 0x33
access_number I64Load32S = 0x34
access_number I64Load32U = 0x35
access_number I32Store = 0x36
access_number I64Store = 0x37
access_number F32Store = 0x38
access_number F64Store = 0x39
access_number I32Store8 = 0x3A
access_number I32Store16 = 0x3B
access_number I64Store8 = 0x3C
access_number I64Store16 = 0x3D
access_number I64Store32 = 0x3E

-- its opcode
abbrev pub access_opcode : AccessOp → List ℕ
access_opcode op = access_number op ∷ []
