-- The laws that the crate's law functions prove.
use Rattle.std.specs.Prelude.{◌≡◌, length, true, false, Bool, List, [], ◌∷◌, filter, map, Some}
use Rattle.std.specs.List.{flat_map}
use Rattle.wasm_encoder_base.specs.Table.{Entry, table, entries_of}
use Rattle.wasm_encoder_base.specs.Uncovered.{uncovered}
use Rattle.wasm_encoder_base.specs.Distinct.{are_distinct}
use Rattle.wast_grammar.specs.Spelling.{find_by}
use Rattle.wast_mnemonics.specs.TextTable.{uncovered_entry, text_table}
use Rattle.wast_mnemonics.specs.Words.{entry_of}
use Rattle.wast_mnemonics.specs.Mnemonics.{word_mnemonic}
use Rattle.wast_mnemonics.specs.declared.word.Word.{Word}

-- The text's table has 623 entries; each mnemonic stands once,
abbrev pub TextEntryCount : Type 0
TextEntryCount = length text_table ≡ 623

abbrev pub MnemonicsOnce : Type 0
MnemonicsOnce = are_distinct (map (λ t. t.mnemonic) text_table) ≡ true

-- with the entries of the table that have it.
abbrev pub EntriesByMnemonic : Type 0
EntriesByMnemonic = map (λ t. t.entries) text_table ≡ map (λ t. entries_of t.mnemonic table) text_table

-- All entries of the table are there, in their order, and all instructions that are refused as uncovered.
abbrev pub TableWhole : Type 0
TableWhole = flat_map (λ t. t.entries) text_table ≡ table

abbrev has_none : List Entry → Bool
has_none [] = true
has_none (e ∷ es) = false

abbrev pub UncoveredWhole : Type 0
UncoveredWhole = filter (λ t. has_none t.entries) text_table ≡ map uncovered_entry uncovered

-- The entry of a word is that of its mnemonic.
abbrev pub IsListed : Word → Type 0
IsListed w = find_by (λ t. t.mnemonic) (word_mnemonic w) text_table ≡ Some (entry_of w)

abbrev pub EveryWord : Type 0
EveryWord = (w : Word) → IsListed w
