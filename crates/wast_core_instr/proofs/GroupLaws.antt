-- Instructions keep what expressions ask.
use Rattle.std.specs.Prelude.{codes}
use Rattle.std.proofs.Common.{◌≡◌, [], ◌∷◌, false, true, Option, Some, None, refl, ap, map}
use Rattle.wasm_encoder_base.specs.Table.{table, entries_of}
use Rattle.wasm_encoder_base.specs.Leb.{uleb, leb, digits}
use Rattle.wasm_encoder_base.specs.Uncovered.{uncovered}
use Rattle.wast_typed_operands.specs.Tokens.{Word}
use Rattle.wast_typed_operands.specs.Spelling.{◌>>=◌, find_by}
use Rattle.wast_typed_operands.specs.Look.{OneOf, holds, apart, any_end, join}
use Rattle.wast_mnemonics.specs.TextTable.{TextEntry, text_table}
use Rattle.wast_mnemonics.specs.Laws.{EveryWord}
use Rattle.wast_mnemonics.specs.Heads.{chosen}
use Rattle.wast_mnemonics.specs.Words.{entry_of}
use Rattle.wast_mnemonics.specs.declared.word.Word.TheVariants as words
use Rattle.wast_mnemonics.specs.declared.word.NameWord.{NameWord}
use Rattle.wast_mnemonics.specs.declared.word.NameWord.TheVariants as name_words
use Rattle.wast_mnemonics.specs.Mnemonics.{word_mnemonic}
use Rattle.wast_expressions.specs.Expressions.{OfOperands, OfBlock, OfArms, hint_tests, inside_tests}
use Rattle.wast_expressions.specs.Heeds.{Heeds, Spelled}
use Rattle.wast_core_instr.specs.InstructionTree.{Operands, Label, TryTable}
use Rattle.wast_core_instr.specs.InstructionSyntax.{instruction, instruction_starts, own_operands, row_stops}
use Rattle.wast_core_instr.specs.InstructionGroups.{block_group, head_mnemonic, instruction_heads, instruction_made, unlabelled}

-- BLOCKS
pub block_is : block_group (head_mnemonic (chosen (codes "block") (entries_of (codes "block") table) false)) ≡ OfBlock
unfolding table uleb leb digits
block_is = refl

pub loop_is : block_group (head_mnemonic (chosen (codes "loop") (entries_of (codes "loop") table) false)) ≡ OfBlock
unfolding table uleb leb digits
loop_is = refl

pub if_is : block_group (head_mnemonic (chosen (codes "if") (entries_of (codes "if") table) false)) ≡ OfArms
unfolding table uleb leb digits
if_is = refl

pub try_is : block_group (head_mnemonic (chosen (codes "try") (entries_of (codes "try") table) false)) ≡ OfOperands
unfolding table uleb leb digits
try_is = refl

-- WHAT MAY FOLLOW
module _ {N P : Type 0} where
  operands_ended : (o : Operands N P) → any_end (own_operands o) ≡ false
  operands_ended (TryTable t) = refl
  operands_ended o = refl

  operands_flat : (o : Operands N P) → apart (own_operands o) (join hint_tests instruction_starts) ≡ true
  unfolding text_table table uncovered uleb leb digits
  operands_flat (TryTable t) = refl
  operands_flat o = refl

stops_behind : (N P : Type 0) → apart row_stops (inside_tests (instruction_heads {N = N} {P = P})) ≡ true
unfolding text_table table uncovered uleb leb digits
stops_behind N P = refl

no_then : holds (OneOf (map (λ t. t.mnemonic) text_table) []) (codes "then") ≡ false
unfolding text_table table uncovered uleb leb digits
no_then = refl

no_offset : holds (OneOf (map (λ t. t.mnemonic) text_table) []) (codes "offset") ≡ false
unfolding text_table table uncovered uleb leb digits
no_offset = refl

no_item : holds (OneOf (map (λ t. t.mnemonic) text_table) []) (codes "item") ≡ false
unfolding text_table table uncovered uleb leb digits
no_item = refl

module _ {N P : Type 0} where
  pub instruction_heeds : Heeds (instruction_heads {N = N} {P = P})
  instruction_heeds = record { behind = stops_behind N P; stops_ended = refl; own_ended = λ i. operands_ended i.operands; own_flat = λ i. operands_flat i.operands; no_then = no_then; no_offset = no_offset; no_item = no_item }

-- WHAT GROUPS MAKE
abbrev placed : {P : Type 0} → P → Option TextEntry → Option (TextEntry × P)
placed p o = o >>= λ t. Some (t, p)

-- a word that may have a label, without one
alone : (N P : Type 0) (w : NameWord) (p : P) → find_by (λ t. t.mnemonic) (word_mnemonic (words.Name w)) text_table ≡ Some (entry_of (words.Name w)) → (instruction {N = N} {P = P}).spells (unlabelled (word_mnemonic (words.Name w))) (Word (word_mnemonic (words.Name w)) p ∷ [])
unfolding instruction
alone N P w p e = (((entry_of (words.Name w), p), Label None), refl, (Word (word_mnemonic (words.Name w)) p ∷ [], [], refl, (Word (word_mnemonic (words.Name w)) p, refl, ap (placed p) e), (None, refl, refl)))

pub instruction_spelled : (N P : Type 0) → EveryWord → Spelled (instruction {N = N} {P = P}) instruction_made
instruction_spelled N P every = record { end_is = λ p. alone N P name_words.End p (every (words.Name name_words.End)); else_is = λ p. alone N P name_words.Else p (every (words.Name name_words.Else)) }
