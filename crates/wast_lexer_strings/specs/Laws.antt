-- The laws of strings.
use Rattle.std.specs.Prelude.{◌≡◌, ℕ, List, ◌∷◌, ◌++◌, Some}
use Rattle.wast_lexer_strings.specs.Strings.{Elements}
use Rattle.wast_lexer_strings.specs.StringScan.{Read, read}
use Rattle.wast_lexer_strings.specs.StringScan.State.{Within}

-- behind its first quote, the scan reads a string's bytes and what follows it
abbrev pub ReadsWhatIsWritten : Type 0
ReadsWhatIsWritten = (inner bytes rest : List ℕ) → Elements inner bytes → read Within (inner ++ 34 ∷ rest) ≡ Some (record { bytes = bytes; rest = rest })

-- what it reads is a string
abbrev pub ReadsStringsAlone : Type 0
ReadsStringsAlone = (text : List ℕ) (r : Read) → read Within text ≡ Some r → (inner : List ℕ) × Elements inner r.bytes × (text ≡ inner ++ 34 ∷ r.rest)
