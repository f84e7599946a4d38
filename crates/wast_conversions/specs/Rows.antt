-- What private contracts say of the table's entries: what one says of operands, and which of two an instruction is of.
use Rattle.std.specs.Prelude.{◌≡◌, ℕ, Bool, true, false, List}
use Rattle.wasm_encoder_base.specs.Instr.{instr_bytes, counts_fit}
use Rattle.wasm_encoder_base.specs.OperandSyntax.{OperandSyntax}
use Rattle.wasm_encoder_instr.specs.declared.gc.GcOp.{GcOp}
use Rattle.wasm_encoder_instr.specs.declared.gc.GcOp.TheVariants as gc_ops
use Rattle.wasm_encoder_instr.specs.declared.instruction.Instruction.{Instruction}
use Rattle.wasm_encoder_instr.specs.declared.instruction.Instruction.TheVariants as variants
use Rattle.wast_core_instr.specs.InstructionViews.{instruction_tree}
use Rattle.wast_core_instr.specs.declared.instruction.Instruction as tree
use Rattle.wast_core_instr.specs.declared.instruction.Instruction.TheVariants as instructions
use Rattle.wast_mnemonics.specs.declared.word.Word.{Word}
use Rattle.wast_mnemonics.specs.Heads.{head}
use Rattle.wast_mnemonics.specs.Words.{entry_of}
use Rattle.wast_conversions.specs.Instructions.{listed_syntax_of, instr_meant}

-- the operands of a word's entry; where two entries of the table have it, of the first
unfoldable pub row_of : Word → OperandSyntax
row_of w = listed_syntax_of (head (entry_of w) false)

-- the instruction is that of the second entry of its mnemonic, or of the first, where there are two
abbrev pub GcChosen : GcOp → (second : Bool) → Type 0
GcChosen (gc_ops.RefTestNonNull heap_type) second = second ≡ false
GcChosen (gc_ops.RefTestNullable heap_type) second = second ≡ true
GcChosen (gc_ops.RefCastNonNull heap_type) second = second ≡ false
GcChosen (gc_ops.RefCastNullable heap_type) second = second ≡ true
GcChosen _ second = Unit {0}

abbrev pub Chosen : Instruction → (second : Bool) → Type 0
Chosen variants.Select second = second ≡ false
Chosen (variants.TypedSelect val_type) second = second ≡ true
Chosen (variants.TypedSelectMulti types) second = second ≡ true
Chosen (variants.Gc op) second = GcChosen op second
Chosen _ second = Unit {0}

-- an instruction that the table lists
abbrev pub IsListed : tree.Instruction → Type 0
IsListed (instructions.Proposal op) = ⊥
IsListed _ = Unit {0}

-- the bytes of the instruction that one stands for, and whether the counts in them fit
unfoldable pub bytes_meant : tree.Instruction → List ℕ
bytes_meant i = instr_bytes (instr_meant (instruction_tree i))

unfoldable pub FitsMeant : tree.Instruction → Type 0
FitsMeant i = counts_fit (instr_meant (instruction_tree i)).operands
