-- An instruction by its word and what is read behind it.
use Rattle.std.proofs.Common.{◌≡◌, ℕ, List, Option, Some, ap, ◌∙◌, sym}
use Rattle.std.specs.Prelude.{Result, Ok, Err, IfOk}
use Rattle.wast_typed_operands.specs.Tokens.{Name, SignificantToken}
use Rattle.wast_typed_operands.specs.Spelling.{◌>>=◌}
use Rattle.wast_typed_operands.specs.State.{State, ahead}
use Rattle.wast_typed_operands.specs.Problem.{Problem}
use Rattle.wast_typed_operands.specs.Reading.{Gives, Refuses}
use Rattle.wast_typed_operands.proofs.States.{refuses_all}
use Rattle.wast_mnemonics.specs.TextTable.{TextEntry}
use Rattle.wast_mnemonics.specs.Words.{entry_of, word_operands}
use Rattle.wast_mnemonics.specs.Heads.{head}
use Rattle.wast_mnemonics.specs.declared.word.Word.{Word}
use Rattle.wast_core_instr.specs.InstructionTree as spec
use Rattle.wast_core_instr.specs.InstructionTree.{Operands, choose_second}
use Rattle.wast_core_instr.specs.InstructionSyntax.{mnemonic, operands, as_instruction, instruction}
use Rattle.wast_core_instr.specs.InstructionViews.{instruction_operands, instruction_tree}
use Rattle.wast_core_instr.specs.WordViews.{instruction_word}
use Rattle.wast_core_instr.specs.declared.instruction.Instruction.{Instruction}

abbrev Read : Type 0 → Type 0
Read A = Option (A × List (SignificantToken Name ℕ))

-- a mnemonic and the operands behind it, and the instruction that they are
abbrev paired : TextEntry × ℕ → Read (Operands Name ℕ) → Read ((TextEntry × ℕ) × Operands Name ℕ)
paired m o = o >>= λ d. Some ((m, d.0), d.1)

abbrev joined : Read ((TextEntry × ℕ) × Operands Name ℕ) → Read (spec.Instruction Name ℕ)
joined o = o >>= λ x. Some (as_instruction x.0, x.1)

abbrev behind : TextEntry × ℕ → Read (Operands Name ℕ) → Read (spec.Instruction Name ℕ)
behind m o = joined (paired m o)

abbrev all : Read (TextEntry × ℕ) → Read (spec.Instruction Name ℕ)
all o = joined (o >>= λ m. paired m.0 ((operands m.0.0.operands).reads m.1))

module _ (ts mid : List (SignificantToken Name ℕ)) (w : Word) (p : ℕ) (known : (mnemonic {N = Name} {P = ℕ}).reads ts ≡ Some ((entry_of w, p), mid)) where
  abbrev read : Read (Operands Name ℕ)
  read = (operands (word_operands w)).reads mid

  is_behind : instruction.reads ts ≡ behind (entry_of w, p) read
  unfolding instruction
  is_behind = ap all known

  pub worded : (r : Result Instruction Problem) (s : State) → Gives instruction_operands r s read → IfOk r (λ i. instruction_word i ≡ w) → Gives instruction_tree r s (instruction.reads ts)
  worded (Ok i) s o e =
      is_behind ∙ ap (behind (entry_of w, p)) o ∙ ap (λ v. Some (record { head = head (entry_of v) (choose_second (instruction_operands i)); operands = instruction_operands i }, ahead s)) (sym e)
  worded (Err q) s o e = refuses_all q read (instruction.reads ts) (λ n. is_behind ∙ ap (behind (entry_of w, p)) n) o

pub unworded : (ts : List (SignificantToken Name ℕ)) (q : Problem) → Refuses q ((mnemonic {N = Name} {P = ℕ}).reads ts) → Refuses q (instruction.reads ts)
unfolding instruction
unworded ts q = refuses_all q (mnemonic.reads ts) (instruction.reads ts) (ap all)
