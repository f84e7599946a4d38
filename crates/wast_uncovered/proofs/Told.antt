-- What is told of an instruction is its first form: the table has an entry of its mnemonic, but for instructions of proposals.
use Rattle.std.proofs.Common.{◌≡◌, ℕ, Bool, true, false, List, [], ◌∷◌, Option, Some, None, refl, ap}
use Rattle.std.specs.Prelude.{option_map}
use Rattle.wasm_encoder_base.specs.Leb.{uleb, leb, digits}
use Rattle.wasm_encoder_base.specs.Table.{table, entries_of}
use Rattle.wasm_encoder_opcodes.specs.Compare.{compare_mnemonic, compare_opcode}
use Rattle.wasm_encoder_opcodes.specs.Numeric.{numeric_mnemonic, numeric_opcode}
use Rattle.wasm_encoder_opcodes.specs.Convert.{convert_mnemonic, convert_opcode}
use Rattle.wasm_encoder_opcodes.specs.Vector.{vector_mnemonic, vector_opcode}
use Rattle.wasm_encoder_opcodes.specs.VectorNarrow.{vector_narrow_mnemonic, vector_narrow_opcode}
use Rattle.wasm_encoder_opcodes.specs.VectorWide.{vector_wide_mnemonic, vector_wide_opcode}
use Rattle.wasm_encoder_opcodes.specs.VectorFloat.{vector_float_mnemonic, vector_float_opcode}
use Rattle.wasm_encoder_opcodes.specs.Access.{access_mnemonic, access_opcode}
use Rattle.wasm_encoder_opcodes.specs.Atomic.{atomic_mnemonic, atomic_opcode}
use Rattle.wasm_encoder_opcodes.specs.AtomicRmw.{atomic_rmw_mnemonic, atomic_rmw_opcode}
use Rattle.wast_mnemonics.specs.Heads.{Head, Listed, Unlisted, chosen}
use Rattle.wast_mnemonics.specs.Mnemonics.{word_mnemonic}
use Rattle.wast_core_instr.specs.InstructionTree.{choose_second}
use Rattle.wast_core_instr.specs.InstructionViews.{instruction_operands, instruction_tree}
use Rattle.wast_core_instr.specs.WordViews.{bulk_word, gc_word, vector_arg_word, proposal_word, instruction_word}
use Rattle.wast_core_instr.specs.declared.bulk.BulkOp.{BulkOp}
use Rattle.wast_core_instr.specs.declared.bulk.BulkOp.TheVariants as bulks
use Rattle.wast_core_instr.specs.declared.gc.GcOp.{GcOp}
use Rattle.wast_core_instr.specs.declared.gc.GcOp.TheVariants as gcs
use Rattle.wast_core_instr.specs.declared.vector_arg.VectorArgOp.{VectorArgOp}
use Rattle.wast_core_instr.specs.declared.vector_arg.VectorArgOp.TheVariants as vector_args
use Rattle.wast_core_instr.specs.declared.proposal.ProposalOp.TheVariants as proposals
use Rattle.wast_core_instr.specs.declared.instruction.Instruction.{Instruction}
use Rattle.wast_core_instr.specs.declared.instruction.Instruction.TheVariants as instructions
use Rattle.wast_conversions.specs.Covered.{Form, operand_forms, forms_with, instr_forms}
use Rattle.wast_conversions.specs.Rows.{IsListed}
use Rattle.wast_conversions.proofs.Opcodes.{row_of, none_found, compare_found, numeric_found, convert_found, vector_found, vector_narrow_found, vector_wide_found, vector_float_found, access_found, atomic_found, atomic_rmw_found}
use Rattle.wast_uncovered.specs.First.{first}
use Rattle.wast_uncovered.specs.Told.{told}

-- the mnemonic of the table's entry, where it is one
abbrev listed : Head → Option Form
listed (Listed e) = Some e.mnemonic
listed (Unlisted mnemonic) = None

-- the table has the mnemonic, whichever entry is chosen where there are two
abbrev Found : Form → Bool → Type 0
Found mnemonic second = listed (chosen mnemonic (entries_of mnemonic table) second) ≡ Some mnemonic

listed_row : (h : Head) (mnemonic opcode : List ℕ) → row_of h ≡ Some (mnemonic, opcode) → listed h ≡ Some mnemonic
listed_row (Listed e) mnemonic opcode p = ap (option_map (λ row. row.0)) p
listed_row (Unlisted m) mnemonic opcode p = cc

by_row : (mnemonic opcode : List ℕ) (second : Bool) → row_of (chosen mnemonic (entries_of mnemonic table) second) ≡ Some (mnemonic, opcode) → Found mnemonic second
by_row mnemonic opcode second = listed_row (chosen mnemonic (entries_of mnemonic table) second) mnemonic opcode

bulk_found : (op : BulkOp) (second : Bool) → Found (word_mnemonic (bulk_word op)) second
unfolding table uleb leb digits
bulk_found (bulks.DataDrop index) second = refl
bulk_found _ second = refl

vector_arg_found : (op : VectorArgOp) (second : Bool) → Found (word_mnemonic (vector_arg_word op)) second
unfolding table uleb leb digits
vector_arg_found (vector_args.V128Const value) second = refl
vector_arg_found _ second = refl

gc_found : (op : GcOp) (second : Bool) → Found (word_mnemonic (gc_word op)) second
unfolding table uleb leb digits
gc_found (gcs.RefTest test) true = refl
gc_found (gcs.RefTest test) false = refl
gc_found (gcs.RefCast cast) true = refl
gc_found (gcs.RefCast cast) false = refl
gc_found _ second = refl

instruction_found : (i : Instruction) (second : Bool) → IsListed i → Found (word_mnemonic (instruction_word i)) second
unfolding table uleb leb digits
instruction_found (instructions.Compare op) second p = by_row (compare_mnemonic op) (compare_opcode op) second (compare_found op second)
instruction_found (instructions.Numeric op) second p = by_row (numeric_mnemonic op) (numeric_opcode op) second (numeric_found op second)
instruction_found (instructions.Convert op) second p = by_row (convert_mnemonic op) (convert_opcode op) second (convert_found op second)
instruction_found (instructions.Vector op) second p = by_row (vector_mnemonic op) (vector_opcode op) second (vector_found op second)
instruction_found (instructions.VectorNarrow op) second p = by_row (vector_narrow_mnemonic op) (vector_narrow_opcode op) second (vector_narrow_found op second)
instruction_found (instructions.VectorWide op) second p = by_row (vector_wide_mnemonic op) (vector_wide_opcode op) second (vector_wide_found op second)
instruction_found (instructions.VectorFloat op) second p = by_row (vector_float_mnemonic op) (vector_float_opcode op) second (vector_float_found op second)
instruction_found (instructions.Access op memarg) second p = by_row (access_mnemonic op) (access_opcode op) second (access_found op second)
instruction_found (instructions.Atomic op memarg) second p = by_row (atomic_mnemonic op) (atomic_opcode op) second (atomic_found op second)
instruction_found (instructions.AtomicRmw op memarg) second p = by_row (atomic_rmw_mnemonic op) (atomic_rmw_opcode op) second (atomic_rmw_found op second)
instruction_found (instructions.Bulk op) second p = bulk_found op second
instruction_found (instructions.Gc op) second p = gc_found op second
instruction_found (instructions.VectorArg op) second p = vector_arg_found op second
instruction_found (instructions.Proposal op) second p = absurd p
instruction_found (instructions.Select types) true p = refl
instruction_found (instructions.Select types) false p = refl
instruction_found _ second p = refl

-- WHAT IS TOLD
named : (h : Head) (mnemonic : Form) (fs : List Form) → listed h ≡ Some mnemonic → first (forms_with h fs) ≡ option_map (λ form. mnemonic) (first fs)
named (Listed e) mnemonic [] p = refl
named (Listed e) mnemonic (f ∷ fs) p = p
named (Unlisted m) mnemonic fs p = cc

listed_first : (i : Instruction) → IsListed i → first (instr_forms (instruction_tree i)) ≡ option_map (λ form. word_mnemonic (instruction_word i)) (first (operand_forms (instruction_operands i)))
listed_first i p =
    let m = word_mnemonic (instruction_word i) in
    let second = choose_second (instruction_operands i) in
    named (chosen m (entries_of m table) second) m (operand_forms (instruction_operands i)) (instruction_found i second p)

pub told_first : (i : Instruction) → first (instr_forms (instruction_tree i)) ≡ told i
told_first (instructions.Proposal op) =
    let os = instruction_operands (instructions.Proposal op) in
    let m = word_mnemonic (proposal_word op.value) in
    ap (λ es. first (forms_with (chosen m es (choose_second os)) (operand_forms os))) (none_found op.value)
told_first (instructions.Nop) = listed_first instructions.Nop tt
told_first i = listed_first i tt
