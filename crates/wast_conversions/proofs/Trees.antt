-- An instruction of the same mnemonic, with the operands that are meant, is the one that is meant.
use Rattle.std.proofs.Common.{◌≡◌, List, [], ◌∷◌, refl, sym, subst, ap, ◌∙◌, Some, None}
use Rattle.std.specs.Prelude.{ℤ, Option, Result, Ok, Err, IfOk, OnOk}
use Rattle.wasm_encoder_base.specs.Instr as binary
use Rattle.wasm_encoder_base.specs.Instr.{kind_at, kind_of, in_range, IsInstr}
use Rattle.wasm_encoder_base.specs.Table.{table, entries_of}
use Rattle.wasm_encoder_base.specs.OperandSyntax.{OperandSyntax}
use Rattle.wasm_encoder_base.specs.OperandSyntax as syntax
use Rattle.wasm_encoder_instr.specs.MemArg.{is_aligned}
use Rattle.wasm_encoder_instr.specs.Instruction.{instr_mnemonic, instr_view, can_encode_instr}
use Rattle.wasm_encoder_instr.specs.declared.instruction.Instruction.{Instruction}
use Rattle.wasm_encoder_instr.proofs.InTable.{all_listed}
use Rattle.wast_parser.specs.Identifiers.{Reference}
use Rattle.wast_value_types.specs.ValueTree.{ValType}
use Rattle.wast_mnemonics.specs.declared.word.Word.{Word}
use Rattle.wast_mnemonics.specs.Heads.{Head, Listed, Unlisted, head, chosen}
use Rattle.wast_mnemonics.specs.Mnemonics.{word_mnemonic}
use Rattle.wast_mnemonics.specs.Words.{entry_of}
use Rattle.wast_core_instr.specs.InstructionTree.{Operands, choose_second}
use Rattle.wast_core_instr.specs.InstructionTree as instr
use Rattle.wast_core_instr.specs.InstructionViews.{instruction_operands, instruction_tree}
use Rattle.wast_core_instr.specs.WordViews.{instruction_word, proposal_word}
use Rattle.wast_core_instr.specs.declared.instruction.Instruction as tree
use Rattle.wast_core_instr.specs.declared.instruction.Instruction.TheVariants as instructions
use Rattle.wast_conversions.specs.Operands.{integer_meant, both_meant, select_meant, operands_meant, OperandsAligned}
use Rattle.wast_conversions.specs.Instructions.{opcode_of, listed_syntax_of, instr_meant}
use Rattle.wast_conversions.specs.Covered.{Form, operand_forms, forms_with, instr_forms}
use Rattle.wast_conversions.specs.Rows.{row_of, Chosen, IsListed}
use Rattle.wast_conversions.proofs.Empty.{unmapped}
use Rattle.wast_conversions.proofs.Logarithms.{logarithm_below}
use Rattle.wast_conversions.proofs.Opcodes.{instr_found, none_found}

-- which of two entries says nothing of integers
same_row : {N P : Type 0} (w : Word) (os : Operands N P) → operands_meant (row_of w) os ≡ operands_meant (listed_syntax_of (head (entry_of w) (choose_second os))) os
unfolding row_of
same_row w (instr.Types ts) = refl
same_row w (instr.Ref r) = refl
same_row w os = refl

as_meant : (i : tree.Instruction) (j : Instruction) → instr_mnemonic j ≡ word_mnemonic (instruction_word i)
    → Chosen j (choose_second (instruction_operands i))
    → (instr_view j).operands ≡ operands_meant (row_of (instruction_word i)) (instruction_operands i)
    → instr_view j ≡ instr_meant (instruction_tree i)
as_meant i j e c p =
    let second = choose_second (instruction_operands i) in
    let opcode : (instr_view j).opcode ≡ opcode_of (head (entry_of (instruction_word i)) second) =
    sym (instr_found j second c) ∙ ap (λ m. opcode_of (chosen m (entries_of m table) second)) e in
    let operands = p ∙ same_row (instruction_word i) (instruction_operands i) in
    λ t. record { opcode = opcode t; operands = operands t }

-- where alignments are well formed, it can be encoded
integer_aligned : (o : OperandSyntax) (z : ℤ) → is_aligned (integer_meant o z)
integer_aligned syntax.I64 z = tt
integer_aligned _ z = tt

module _ {N P : Type 0} where
  both_aligned : (p : Option (Reference N P × Reference N P)) → is_aligned (both_meant p)
  both_aligned None = tt
  both_aligned (Some p) = tt

  select_aligned : (ts : Option (List (ValType N P))) → is_aligned (select_meant ts)
  select_aligned None = tt
  select_aligned (Some ts) = tt

  pub meant_aligned : (o : OperandSyntax) (os : Operands N P) → OperandsAligned os → is_aligned (operands_meant o os)
  meant_aligned o (instr.Memory m) h = logarithm_below m.align h
  meant_aligned o (instr.MemoryLane m n) h = logarithm_below m.align h
  meant_aligned o (instr.Integer z) h = integer_aligned o z
  meant_aligned o (instr.OptionalTwo p) h = both_aligned p
  meant_aligned o (instr.Types ts) h = select_aligned ts
  meant_aligned o _ h = tt

-- WHAT IS COVERED: the operands are, and the instruction is in the table
pub covered_operands : (h : Head) (fs : List Form) → forms_with h fs ≡ [] → fs ≡ []
covered_operands (Listed e) fs p = unmapped (λ f. e.mnemonic) fs p
covered_operands (Unlisted mnemonic) fs p = cc

pub covered_listed : (i : tree.Instruction) → instr_forms (instruction_tree i) ≡ [] → IsListed i
covered_listed (instructions.Proposal op) p =
    let os = instruction_operands (instructions.Proposal op) in
    let m = word_mnemonic (proposal_word op.value) in
    let q : forms_with (chosen m (entries_of m table) (choose_second os)) (operand_forms os) ≡ m ∷ [] =
    ap (λ es. forms_with (chosen m es (choose_second os)) (operand_forms os)) (none_found op.value) in
    let r : m ∷ [] ≡ [] = sym q ∙ p in
    cc
covered_listed _ p = tt

-- WHAT IS ANSWERED is the instruction that is meant, and can be encoded where its alignment is well formed
aligned_as : (i : tree.Instruction) (j : Instruction) → instr_view j ≡ instr_meant (instruction_tree i) → OperandsAligned (instruction_operands i) → can_encode_instr j
aligned_as i j e h =
    let P : binary.Instr → Type 0 = λ k. is_aligned k.operands in
    subst P (sym e) (meant_aligned (listed_syntax_of (instruction_tree i).head) (instruction_operands i) h)

pub converted : {E : Type 0} (i : tree.Instruction) (r : Result Instruction E) → IfOk r (λ j. instr_mnemonic j ≡ word_mnemonic (instruction_word i))
    → IfOk r (λ j. Chosen j (choose_second (instruction_operands i)))
    → IfOk r (λ j. (instr_view j).operands ≡ operands_meant (row_of (instruction_word i)) (instruction_operands i))
    → IfOk r (λ j. instr_view j ≡ instr_meant (instruction_tree i)) × IfOk r (λ j. OperandsAligned (instruction_operands i) → can_encode_instr j)
converted i (Ok j) e c p = let same = as_meant i j e c p in (same, aligned_as i j same)
converted i (Err x) e c p = (tt, tt)

-- and it is in the table with operands of its kind, in their ranges
pub in_table : {E : Type 0} (i : tree.Instruction) (r : Result Instruction E) → IfOk r (λ j. instr_view j ≡ instr_meant (instruction_tree i))
    → OnOk r (in_range (operands_meant (row_of (instruction_word i)) (instruction_operands i))) → OnOk r (IsInstr (instr_meant (instruction_tree i)))
in_table i (Ok j) e h =
    let P : binary.Instr → Type 0 = λ k. kind_at k.opcode ≡ Some (kind_of k.operands) in
    record { listed = subst P e (all_listed j).operands; ranges = subst in_range (same_row (instruction_word i) (instruction_operands i)) h }
in_table i (Err x) e h = tt
