-- The laws that the crate's law functions prove.
use Rattle.std.specs.Prelude.{◌≡◌, length, true, filter, map, AllPairs}
use Rattle.std.specs.List.{AllByRecursion}
use Rattle.wasm_encoder_base.specs.Types.{heap_bytes, ref_bytes, val_bytes, field_bytes, func_bytes, composite_bytes, sub_bytes}
use Rattle.wasm_encoder_base.specs.Instr.{IsInstr, instr_bytes, expr_bytes}
use Rattle.wasm_encoder_base.specs.Balanced.{IsBalanced}
use Rattle.wasm_encoder_base.specs.Table.{table}
use Rattle.wasm_encoder_base.specs.Uncovered.{uncovered}
use Rattle.wasm_encoder_base.specs.Distinct.{opcodes, mnemonics, single_mnemonic, are_distinct, are_apart, none_among}
use Rattle.wasm_encoder_bytes.specs.Unique.{Unique, Any}

-- Types are told apart by their bytes, whatever follows.
abbrev pub OneHeapType : Type 0
OneHeapType = Unique Any heap_bytes

abbrev pub OneRefType : Type 0
OneRefType = Unique Any ref_bytes

abbrev pub OneValType : Type 0
OneValType = Unique Any val_bytes

abbrev pub OneFieldType : Type 0
OneFieldType = Unique Any field_bytes

abbrev pub OneFuncType : Type 0
OneFuncType = Unique Any func_bytes

abbrev pub OneCompositeType : Type 0
OneCompositeType = Unique Any composite_bytes

abbrev pub OneSubType : Type 0
OneSubType = Unique Any sub_bytes

-- The same of instructions, and of expressions: the end that closes no block opened in them is the expression's own.
abbrev pub OneInstruction : Type 0
OneInstruction = Unique IsInstr instr_bytes

abbrev pub OneExpression : Type 0
OneExpression = Unique (λ is. AllByRecursion IsInstr is × IsBalanced is 0) expr_bytes

-- The table has 575 entries. Their opcodes are distinct, and none begins another.
abbrev pub EntryCount : Type 0
EntryCount = length table ≡ 575

abbrev pub OpcodesDistinct : Type 0
OpcodesDistinct = are_distinct (opcodes table) ≡ true

abbrev pub OpcodesApart : Type 0
OpcodesApart = are_apart (opcodes table) ≡ true

-- Their mnemonics are distinct, save select, ref.test and ref.cast; no two have a mnemonic and the operands in common.
abbrev pub MnemonicsDistinct : Type 0
MnemonicsDistinct = are_distinct (mnemonics (filter single_mnemonic table)) ≡ true

abbrev pub EntriesDistinct : Type 0
EntriesDistinct = AllPairs (λ a b. a.mnemonic ≡ b.mnemonic → a.operands ≡ b.operands → ⊥) table

-- The mnemonics of the instructions that are refused as uncovered are distinct, and none is one of the table.
abbrev pub UncoveredDistinct : Type 0
UncoveredDistinct = are_distinct (map (λ u. u.mnemonic) uncovered) ≡ true

abbrev pub UncoveredUnlisted : Type 0
UncoveredUnlisted = none_among (map (λ u. u.mnemonic) uncovered) (mnemonics table) ≡ true
