-- The instructions of a binary that instructions stand for whose indices are numbers (WebAssembly 3.0, 6.5 and 5.4), over names of
-- type N and places of type P.
use Rattle.std.specs.Prelude.{ℕ, List, [], map}
use Rattle.wasm_encoder_base.specs.Instr as binary
use Rattle.wasm_encoder_base.specs.OperandSyntax.{OperandSyntax, Plain}
use Rattle.wast_mnemonics.specs.Heads.{Head, Listed, Unlisted}
use Rattle.wast_core_instr.specs.InstructionTree.{Instruction}
use Rattle.wast_conversions.specs.Operands.{operands_meant}

-- the opcode of the table's entry, and what it says of operands; nothing of those of an instruction that the table doesn't list
abbrev pub opcode_of : Head → List ℕ
opcode_of (Listed e) = e.opcode
opcode_of (Unlisted mnemonic) = []

abbrev pub listed_syntax_of : Head → OperandSyntax
listed_syntax_of (Listed e) = e.operands
listed_syntax_of (Unlisted mnemonic) = Plain

module _ {N P : Type 0} where
  abbrev pub instr_meant : Instruction N P → binary.Instr
  instr_meant i = record { opcode = opcode_of i.head; operands = operands_meant (listed_syntax_of i.head) i.operands }

  abbrev pub instrs_meant : List (Instruction N P) → List binary.Instr
  instrs_meant is = map instr_meant is
