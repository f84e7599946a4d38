-- An instruction of the same word, whose operands are those that the row of its word changes, is the one that is meant.
use Rattle.std.proofs.Common.{◌≡◌, ℕ, refl, ap, ◌∙◌, Some, None}
use Rattle.wasm_encoder_base.specs.OperandSyntax.{OperandSyntax}
use Rattle.wast_parser.specs.Tokens.{Name}
use Rattle.wast_mnemonics.specs.declared.word.Word.{Word}
use Rattle.wast_mnemonics.specs.Heads.{head}
use Rattle.wast_mnemonics.specs.Words.{entry_of}
use Rattle.wast_core_instr.specs.InstructionTree.{Operands, Ref, choose_second}
use Rattle.wast_core_instr.specs.InstructionTree as instr
use Rattle.wast_core_instr.specs.WordViews.{instruction_word}
use Rattle.wast_core_instr.specs.InstructionViews.{instruction_operands, instruction_tree}
use Rattle.wast_core_instr.specs.declared.instruction.Instruction.{Instruction}
use Rattle.wast_meaning.specs.Mentions.{syntax_of}
use Rattle.wast_meaning.specs.Changed.{Change, operands_changed, instr_changed}
use Rattle.wast_changed.specs.Rows.{row_of}

module _ {N P : Type 0} (c : Change N P) where
  -- WHICH OF TWO ENTRIES a word has says nothing of what becomes of its operands,
  same_row : (w : Word) (os : Operands N P) → operands_changed c (row_of w) os ≡ operands_changed c (syntax_of (head (entry_of w) (choose_second os))) os
  unfolding row_of
  same_row w (instr.Types ts) = refl
  same_row w (Ref r) = refl
  same_row w os = refl

  -- and is the same afterwards
  second_kept : (o : OperandSyntax) (os : Operands N P) → choose_second (operands_changed c o os) ≡ choose_second os
  second_kept o (instr.Types None) = refl
  second_kept o (instr.Types (Some ts)) = refl
  second_kept o os = refl

  pub as_tree : (w v : Word) (os ps : Operands N P) → v ≡ w → ps ≡ operands_changed c (row_of w) os
      → (let i : instr.Instruction N P = record { head = head (entry_of w) (choose_second os); operands = os } in
      let j : instr.Instruction N P = record { head = head (entry_of v) (choose_second ps); operands = ps } in
      j ≡ instr_changed c i)
  as_tree w v os ps e p =
      let second : choose_second ps ≡ choose_second os = ap choose_second p ∙ second_kept (row_of w) os in
      let changed : ps ≡ operands_changed c (syntax_of (head (entry_of w) (choose_second os))) os = p ∙ same_row w os in
      λ t. record { head = head (entry_of (e t)) (second t); operands = changed t }

pub as_changed : (c : Change Name ℕ) (i j : Instruction) → instruction_word j ≡ instruction_word i
    → instruction_operands j ≡ operands_changed c (row_of (instruction_word i)) (instruction_operands i) → instruction_tree j ≡ instr_changed c (instruction_tree i)
as_changed c i j e p = as_tree c (instruction_word i) (instruction_word j) (instruction_operands i) (instruction_operands j) e p
