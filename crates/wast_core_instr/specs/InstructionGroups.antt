-- What expressions ask of instructions: their words, which groups they head, and which of them groups make (WebAssembly 3.0,
-- 6.5, folded instructions).
use Rattle.std.specs.Prelude.{ℕ, false, if◌then◌else◌, List, [], ◌∷◌, map, None, codes}
use Rattle.wasm_encoder_base.specs.Table.{table, entries_of, same_text}
use Rattle.wasm_encoder_base.specs.Distinct.{is_among}
use Rattle.wast_mnemonics.specs.TextTable.{text_table}
use Rattle.wast_mnemonics.specs.Heads.{Head, Listed, Unlisted, chosen}
use Rattle.wast_expressions.specs.Items.{Made}
use Rattle.wast_expressions.specs.Expressions.{GroupKind, OfOperands, OfBlock, OfArms, Heads}
use Rattle.wast_core_instr.specs.InstructionTree.{Operands, Label, Block, TryTable, Instruction}
use Rattle.wast_core_instr.specs.InstructionSyntax.{row_stops, own}

abbrev pub head_mnemonic : Head → List ℕ
head_mnemonic (Listed e) = e.mnemonic
head_mnemonic (Unlisted mnemonic) = mnemonic

-- of those with a block type: `block` and `loop` open blocks, `if` has conditions and arms
abbrev pub block_group : List ℕ → GroupKind
block_group mnemonic =
    if is_among mnemonic (codes "block" ∷ codes "loop" ∷ []) then OfBlock
    else if same_text mnemonic (codes "if") then OfArms
    else OfOperands

abbrev pub group_with : {N P : Type 0} → Operands N P → List ℕ → GroupKind
group_with (Block b) mnemonic = block_group mnemonic
group_with (TryTable t) mnemonic = OfBlock
group_with _ mnemonic = OfOperands

module _ {N P : Type 0} where
  -- which group an instruction heads
  abbrev pub group : Instruction N P → GroupKind
  group i = group_with i.operands (head_mnemonic i.head)

  abbrev pub instruction_heads : Heads (Instruction N P)
  instruction_heads = record { words = map (λ t. t.mnemonic) text_table; but = []; stops = row_stops; kind = group; own = own }

  -- `end` and `else` without a label
  abbrev pub unlabelled : List ℕ → Instruction N P
  unlabelled mnemonic = record { head = chosen mnemonic (entries_of mnemonic table) false; operands = Label None }

  abbrev pub instruction_made : Made P (Instruction N P)
  instruction_made = record { else_at = λ p. unlabelled (codes "else"); end_at = λ p. unlabelled (codes "end") }
