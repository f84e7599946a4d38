-- What the iterator of a lexer's tokens gives, where it stands at a place, or has stopped.
use Rattle.std.specs.Prelude.{◌≡◌, ◌⊎◌, ◌+◌, ◌-◌, ℕ, Bool, true, false, if◌then◌else◌, length, Option, Some, None, Result, Ok, Err}
use Rattle.wast_lexer.specs.declared.fault.LexFault.{LexFault}
use Rattle.wast_lexer.specs.declared.lexer.Lexer.{Lexer}
use Rattle.wast_lexer.specs.declared.token.Token.{Token}
use Rattle.wast_lexer.specs.declared.lexer.Tokens.{Tokens}
use Rattle.wast_lexer.specs.Parse.{IsTokenAt, IsFaultAt}
use Rattle.wast_lexer.specs.Source.{source, allows}
use Rattle.wast_lexer.specs.TokenText.{IsOf}

abbrev pub lexer_of : Tokens → Lexer
lexer_of s = s.lexer

-- the offset at which the next token begins
abbrev pub place_of : Tokens → ℕ
place_of s = s.pos

abbrev pub has_stopped : Tokens → Bool
has_stopped s = s.stopped

-- nothing, where it has stopped or is at the end; else the token at its place, or the fault there, and then it stops
abbrev pub GivesAt : Tokens → Option (Result Token LexFault) → Tokens → Type 0
GivesAt s None t = ((has_stopped s ≡ true) ⊎ (place_of s ≡ length (source (lexer_of s)))) × (has_stopped t ≡ true)
GivesAt s (Some (Ok token)) t =
    (has_stopped s ≡ false) × IsTokenAt (allows (lexer_of s)) (source (lexer_of s)) (place_of s) (place_of t) token × IsOf (source (lexer_of s)) token × (has_stopped t ≡ false)
GivesAt s (Some (Err e)) t = (has_stopped s ≡ false) × IsFaultAt (allows (lexer_of s)) (source (lexer_of s)) (place_of s) e × (has_stopped t ≡ true)

-- the next of a text's tokens, which stays the same text
abbrev pub GivesNext : Tokens → Option (Result Token LexFault) → Tokens → Type 0
GivesNext s r t = (lexer_of t ≡ lexer_of s) × GivesAt s r t

-- so many items come at most
abbrev pub left : Tokens → ℕ
left s = if has_stopped s then 0 else length (source (lexer_of s)) - place_of s + 1
