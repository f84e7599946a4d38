-- Rows of the table of words, and which of them may have a text.
use Rattle.std.specs.Prelude.{ℕ, ◌+◌, ◌*◌, ◌/◌, ◌%◌, nat_eq, nat_le, Bool, ◌&&◌, List, length, take, get_or, Option, Some, None, if◌then◌else◌}
use Rattle.std.specs.List.{fold}
use Rattle.wast_grammar.specs.Spelling.{same_text}
use Rattle.wast_mnemonics.specs.declared.slots.TheConstants.{SHIFTS, SLOTS}
use Rattle.wast_mnemonics.specs.declared.table.TheConstants.{LONGEST}
use Rattle.wast_mnemonics.specs.declared.word.Word.{Word}

-- a mnemonic and blanks, the mnemonic's length, and its word
abbrev pub Row : Type 0
Row = List ℕ × ℕ × Word

-- a number below 65536
unfoldable pub hash : List ℕ → ℕ
hash t = fold (λ h byte. (h * 33 + byte) % 65536) 2 t

-- the number of the only row that may have this text
unfoldable pub row_number : List ℕ → ℕ
row_number t = get_or SLOTS ((hash t / 256 + get_or SHIFTS (hash t % 256) 0) % 1024) 0

-- whether a row's mnemonic is this text
abbrev pub has_text : List ℕ → Row → Bool
has_text t r = (nat_eq r.1 (length t) && nat_le (length t) LONGEST) && same_text (take (length t) r.0) t

-- the word of a row, if there is one and it has this text
abbrev pub word_in : List ℕ → Option Row → Option Word
word_in t None = None
word_in t (Some r) = if has_text t r then Some r.2 else None
