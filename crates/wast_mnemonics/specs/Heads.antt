-- Which instruction a mnemonic and its operands are (WebAssembly 3.0, 6.5).
use Rattle.std.specs.Prelude.{ℕ, Bool, List, [], ◌∷◌, if◌then◌else◌}
use Rattle.wasm_encoder_base.specs.Table.{Entry}
use Rattle.wast_mnemonics.specs.TextTable.{TextEntry}

-- which instruction it is: an entry of the table, or one that is refused as uncovered
pub data Head : Type 0 where
  Listed : Entry → Head
  Unlisted : (mnemonic : List ℕ) → Head

-- Of two entries the operands choose: the second where result types are given, or a reference type that is nullable.
abbrev pub chosen : List ℕ → List Entry → Bool → Head
chosen mnemonic [] second = Unlisted mnemonic
chosen mnemonic (e ∷ []) second = Listed e
chosen mnemonic (e ∷ f ∷ es) second = Listed (if second then f else e)

abbrev pub head : TextEntry → (second : Bool) → Head
head t second = chosen t.mnemonic t.entries second
