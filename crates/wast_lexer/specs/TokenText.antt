-- What the readers of a token ask and answer.
use Rattle.std.specs.Prelude.{◌≡◌, ◌⊎◌, ◌+◌, ℕ, Bool, false, not, List, [], slice_range, Option, Some, None, Result, Ok, Err}
use Rattle.std.specs.List.{list_all}
use Rattle.std.specs.Str.{IsCharBoundary, IsUtf8}
use Rattle.wast_lexer_strings.specs.Strings.{is_backslash}
use Rattle.wast_lexer_strings.specs.declared.error.LexError.{LexError}
use Rattle.wast_lexer_strings.specs.declared.error.LexError.TheVariants.{EmptyId, InvalidUtf8Id}
use Rattle.wast_lexer.specs.declared.token.Token.{Token}
use Rattle.wast_lexer.specs.declared.fault.LexFault.{LexFault}
use Rattle.wast_lexer.specs.declared.fault.LexFault.TheVariants.{Lex, Memory}
use Rattle.wast_lexer.specs.Kinds.{IsLexeme, IsIdOf}

-- the text of a token
abbrev pub text_of : List ℕ → Token → List ℕ
text_of text t = slice_range text t.offset (t.offset + t.len)

-- the token is one of this text: it can be cut out of it, and what stands there is of its kind
pub record IsOf (text : List ℕ) (t : Token) : Type 0 where
  pub starts : IsCharBoundary text t.offset
  pub ends : IsCharBoundary text (t.offset + t.len)
  pub lexeme : (allow : Bool) × IsLexeme allow t.kind (text_of text t)

-- a token that is answered is one of this text
abbrev pub GivesTokenOf : List ℕ → Result (Option Token) LexFault → Type 0
GivesTokenOf text (Ok (Some t)) = IsOf text t
GivesTokenOf text (Ok None) = Unit {0}
GivesTokenOf text (Err e) = Unit {0}

-- nothing is escaped
abbrev pub is_plain : List ℕ → Bool
is_plain = list_all (λ c. not (is_backslash c))

-- why an identifier that stands at this place isn't read: it is empty, or no text, or there was no memory, which is asked
-- for only where something is escaped
abbrev pub IsIdFault : List ℕ → ℕ → LexFault → Type 0
IsIdFault word place (Lex span error) =
    (span ≡ place) × (((error ≡ EmptyId) × IsIdOf word []) ⊎ ((error ≡ InvalidUtf8Id) × (bytes : List ℕ) × IsIdOf word bytes × ¬ IsUtf8 bytes))
IsIdFault word place Memory = is_plain word ≡ false

-- the fault names this place and error
abbrev pub IsRefusal : LexFault → ℕ → LexError → Type 0
IsRefusal (Lex span e) place error = (span ≡ place) × (e ≡ error)
IsRefusal Memory place error = ⊥
