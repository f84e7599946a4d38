-- The scan that reads a string byte by byte. The calls `string_end` and `is_text` answer by it; the law `one_meaning` ties
-- it to strings.
use Rattle.std.specs.Prelude.{if◌then◌else◌, Option, Some, None, nat_lt, ◌+◌, ◌*◌, ◌≡◌, ℕ, ◌<◌, ◌≤◌, Bool, true, false, not, ◌&&◌, ◌==◌, List, [], ◌∷◌, ◌++◌, length, drop, encode_utf8, Result, Ok, Err}
use Rattle.std.specs.Str.{is_utf8}
use Rattle.wast_lexer_strings.specs.declared.piece.Piece.{Piece}
use Rattle.wast_lexer_strings.specs.declared.piece.Piece.TheVariants.{Byte, Char}
use Rattle.wast_lexer_strings.specs.declared.error.LexError.{LexError}
use Rattle.wast_lexer_numbers.specs.Numbers.{is_hex}
use Rattle.wast_lexer_strings.specs.Strings.{is_quote, is_backslash, hex_value, is_string_byte, escaped, is_scalar_value}

-- what a scan read of a string: the bytes that it stands for, and what follows it
pub record Read : Type 0 where
  pub bytes : List ℕ
  pub rest : List ℕ

abbrev pub more : List ℕ → Option Read → Option Read
more front None = None
more front (Some r) = Some (record { bytes = front ++ r.bytes; rest = r.rest })

-- within a string, behind a backslash, behind a digit there, behind `\u`, behind digits of `\u{`, behind `{` or `_` there
pub data State : Type 0 where
  Within : State
  Escape : State
  Digit : ℕ → State
  Open : State
  Number : ℕ → State
  Gap : ℕ → State

pub data Step : Type 0 where
  Go : State → List ℕ → Step
  Done : Step
  Fault : Step

abbrev pub on_step : {A : Type 0} → Step → (State → List ℕ → A) → A → A → A
on_step (Go to bytes) f done fault = f to bytes
on_step Done f done fault = done
on_step Fault f done fault = fault

abbrev pub letter_step : Option ℕ → Step
letter_step None = Fault
letter_step (Some d) = Go Within (d ∷ [])

abbrev pub digit_step : ℕ → ℕ → Step
digit_step n c = if is_hex c && nat_lt (16 * n + hex_value c) 1114112 then Go (Number (16 * n + hex_value c)) [] else Fault

abbrev pub step : State → ℕ → Step
step Within c = if is_quote c then Done else if is_backslash c then Go Escape [] else if is_string_byte c then Go Within (c ∷ []) else Fault
step Escape c = if c == 117 then Go Open [] else if is_hex c then Go (Digit c) [] else letter_step (escaped c)
step (Digit h) c = if is_hex c then Go Within ((16 * hex_value h + hex_value c) ∷ []) else Fault
step Open c = if c == 123 then Go (Gap 0) [] else Fault
step (Number n) c = if c == 125 then (if is_scalar_value n then Go Within (encode_utf8 n) else Fault) else if c == 95 then Go (Gap n) [] else digit_step n c
step (Gap n) c = digit_step n c

abbrev pub read : State → List ℕ → Option Read
read state [] = None
read state (c ∷ text) = on_step (step state c) (λ to bytes. more bytes (read to text)) (Some (record { bytes = []; rest = text })) None

abbrev pub is_empty : List ℕ → Bool
is_empty [] = true
is_empty (c ∷ text) = false

-- a whole string that is a text, and not an empty one
abbrev pub is_text : Option Read → Bool
is_text None = false
is_text (Some r) = is_utf8 r.bytes && not (is_empty r.bytes) && is_empty r.rest

abbrev pub meant : Piece → List ℕ
meant (Byte b) = b ∷ []
meant (Char c) = encode_utf8 c

-- a scan from a place and a state on gave this piece and went on within the string
abbrev pub Gives : State → List ℕ → ℕ → Result (Piece × ℕ) LexError → Type 0
Gives state text from (Err e) = read state (drop from text) ≡ None
Gives state text from (Ok p) = (from < p.1) × (p.1 ≤ length text) × (read state (drop from text) ≡ more (meant p.0) (read Within (drop p.1 text)))

-- a scan from a place on found where the string ends
abbrev pub FindsRest : Result ℕ LexError → List ℕ → ℕ → Option Read → Type 0
FindsRest (Err e) text from found = found ≡ None
FindsRest (Ok to) text from found = (from ≤ to) × (to ≤ length text) × (r : Read) × (found ≡ Some r) × (r.rest ≡ drop to text)
