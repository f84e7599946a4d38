-- The laws of numbers.
use Rattle.std.specs.Prelude.{◌≡◌, ◌↔◌, ℕ, List, Some}
use Rattle.wast_lexer_numbers.specs.declared.kind.NumberKind.{NumberKind}
use Rattle.wast_lexer_numbers.specs.Numbers.{IsNumber}
use Rattle.wast_lexer_numbers.specs.NumberScan.{number}

-- the scan finds the kind of each number, and finds none elsewhere; so a word is a number of at most one kind
abbrev pub ScansNumbers : Type 0
ScansNumbers = (word : List ℕ) (kind : NumberKind) → (number word ≡ Some kind) ↔ IsNumber kind word
