-- What the lexer answers at a place.
use Rattle.std.specs.Prelude.{nat_lt, ◌-◌, ◌&&◌, slice_index, ◌≡◌, ◌+◌, ◌<◌, ◌≤◌, ℕ, Bool, List, ◌++◌, length, drop, slice_range, Option, Some, None, Result, Ok, Err}
use Rattle.wast_lexer.specs.declared.token.TokenKind.{TokenKind}
use Rattle.wast_lexer.specs.declared.token.Token.{Token}
use Rattle.wast_lexer.specs.declared.fault.LexFault.{LexFault}
use Rattle.wast_lexer.specs.declared.fault.LexFault.TheVariants.{Lex, Memory}
use Rattle.wast_lexer.specs.Kinds.{is_open, is_at, starts}
use Rattle.wast_lexer.specs.Tiling.{Begins}

-- a `(` stands right before the place
abbrev pub is_opened : List ℕ → ℕ → Bool
is_opened text from = nat_lt 0 from && is_open (slice_index text (from - 1))

-- the token stands in the text from one place to another
pub record IsTokenAt (allow : Bool) (text : List ℕ) (from to : ℕ) (t : Token) : Type 0 where
  pub begins : Begins allow (is_opened text from) t.kind (slice_range text from to) (drop to text)
  pub place : t.offset ≡ from
  pub len : from + t.len ≡ to
  pub within : to ≤ length text

-- no token begins at the place
abbrev pub NoTokenAt : Bool → List ℕ → ℕ → Type 0
NoTokenAt allow text from = (kind : TokenKind) (word rest : List ℕ) → drop from text ≡ word ++ rest → ¬ Begins allow (is_opened text from) kind word rest

-- a fault at a place, where no token begins; no memory is asked for
abbrev pub IsFaultAt : Bool → List ℕ → ℕ → LexFault → Type 0
IsFaultAt allow text from (Lex span error) = (from < length text) × NoTokenAt allow text from × (span ≡ from)
IsFaultAt allow text from Memory = ⊥

-- a call at one place answered so, and left the position at another
abbrev pub Answers : Bool → List ℕ → ℕ → ℕ → Result (Option Token) LexFault → Type 0
Answers allow text from to (Ok (Some t)) = IsTokenAt allow text from to t
Answers allow text from to (Ok None) = (from ≡ length text) × (to ≡ from)
Answers allow text from to (Err e) = IsFaultAt allow text from e × (to ≡ from)

-- a `@` stands at the place, right after `(`
abbrev pub is_marked : List ℕ → ℕ → Bool
is_marked text from = is_opened text from && starts is_at (drop from text)
