-- The scan of a list: the kind of the token at its front, and what comes after it.
-- No public contract speaks of it: it says what the private functions of the lexer do, and is no part of any promise.
use Rattle.std.specs.Prelude.{option_map, ◌≡◌, ◌≤◌, ◌<◌, ℕ, ◌+◌, ◌-◌, Bool, false, not, cond, ◌&&◌, ◌||◌, ◌==◌, if◌then◌else◌, List, [], ◌∷◌, Option, Some, None, Result, Ok, Err, length, take, drop}
use Rattle.wast_lexer_strings.specs.declared.error.LexError.{LexError}
use Rattle.wast_lexer_strings.specs.Strings.{is_quote}
use Rattle.wast_lexer_strings.specs.StringScan.{Read, State, on_step, step, read, is_empty, is_text}
use Rattle.wast_lexer_strings.specs.StringScan.State.{Within}
use Rattle.wast_lexer_numbers.specs.declared.kind.NumberKind.{NumberKind}
use Rattle.wast_lexer_numbers.specs.declared.kind.NumberKind.TheVariants as number
use Rattle.wast_lexer_numbers.specs.NumberScan as numbers
use Rattle.wast_lexer.specs.declared.token.TokenKind.{TokenKind}
use Rattle.wast_lexer.specs.declared.token.TokenKind.TheVariants.{LineComment, BlockComment, Whitespace, LParen, RParen, String, Id, Keyword, Annotation, Reserved, Integer, Float}
use Rattle.wast_lexer.specs.Kinds.{starts, is_space, is_open, is_close, is_semicolon, is_mark, may_stand, is_idchar, is_name, is_lower, is_at}
use Rattle.wast_lexer.specs.Tiling.{goes_on}

-- what follows the longest run of bytes that pass
abbrev pub skip : (ℕ → Bool) → List ℕ → List ℕ
skip p [] = []
skip p (c ∷ text) = cond (p c) (skip p text) (c ∷ text)

abbrev pub is_neither : ℕ → ℕ → ℕ → Bool
is_neither a b c = not (c == a || c == b)

-- the text begins with these two bytes
abbrev pub starts_pair : ℕ → ℕ → List ℕ → Bool
starts_pair a b [] = false
starts_pair a b (c ∷ []) = false
starts_pair a b (c ∷ d ∷ text) = c == a && d == b

-- what follows the end of a block comment, so many levels deep
abbrev pub close : ℕ → List ℕ → Option (List ℕ)
close d [] = None
close d (c ∷ []) = None
close d (c ∷ b ∷ text) =
    if is_open c && is_semicolon b then close (d + 1) text
    else if is_semicolon c && is_close b then (if d == 0 then Some text else close (d - 1) text)
    else close d (b ∷ text)

-- the part of the text before the rest
abbrev pub front : List ℕ → List ℕ → List ℕ
front text rest = take (length text - length rest) text

-- a comment up to the rest
abbrev pub comment : Bool → TokenKind → List ℕ → Option (List ℕ) → Option (TokenKind × List ℕ)
comment allow kind text None = None
comment allow kind text (Some rest) = cond (may_stand allow (front text rest)) (Some (kind, rest)) None

-- what follows the longest word, where the scan stands outside of strings or within one
abbrev pub after_word : Option State → List ℕ → Option (List ℕ)
after_word None [] = Some []
after_word None (c ∷ text) = if is_idchar c then after_word None text else if is_quote c then after_word (Some Within) text else Some (c ∷ text)
after_word (Some state) [] = None
after_word (Some state) (c ∷ text) = on_step (step state c) (λ to bytes. after_word (Some to) text) (after_word None text) None

abbrev pub is_whole : Option Read → Bool
is_whole None = false
is_whole (Some r) = is_empty r.rest

abbrev pub is_string : List ℕ → Bool
is_string [] = false
is_string (c ∷ text) = is_quote c && is_whole (read Within text)

-- a string that stands for a text which is not empty
abbrev pub is_text_string : List ℕ → Bool
is_text_string [] = false
is_text_string (c ∷ text) = is_quote c && is_text (read Within text)

abbrev pub is_id : List ℕ → Bool
is_id [] = false
is_id (c ∷ text) = c == 36 && (is_name text || is_string text)

abbrev pub is_annotated : List ℕ → Bool
is_annotated [] = false
is_annotated (c ∷ text) = is_at c && (is_name text || is_text_string text)

abbrev pub number_token : NumberKind → TokenKind
number_token (number.Integer kind) = Integer kind
number_token (number.Float kind) = Float kind

abbrev pub number_or : Option NumberKind → TokenKind → TokenKind
number_or None kind = kind
number_or (Some n) kind = number_token n

abbrev pub other_kind : List ℕ → TokenKind
other_kind word = if starts is_lower word && is_name word then Keyword else if is_string word then String else Reserved

abbrev pub plain_kind : List ℕ → TokenKind
plain_kind word = if is_id word then Id else number_or (numbers.number word) (other_kind word)

-- the kind of a word
abbrev pub kind_of : Bool → List ℕ → Option TokenKind
kind_of opened word = if opened && starts is_at word then (if is_annotated word then Some Annotation else None) else Some (plain_kind word)

abbrev pub word_token : Bool → Bool → List ℕ → Option (List ℕ) → Option (TokenKind × List ℕ)
word_token allow opened text None = None
word_token allow opened text (Some rest) = if may_stand allow (front text rest) then option_map (λ k. (k, rest)) (kind_of opened (front text rest)) else None

abbrev pub next : Bool → Bool → List ℕ → Option (TokenKind × List ℕ)
next allow opened [] = None
next allow opened (c ∷ text) =
    if is_space c then Some (Whitespace, skip is_space text)
    else if is_open c then (if starts is_semicolon text then comment allow BlockComment (c ∷ text) (close 0 (drop 1 text)) else Some (LParen, text))
    else if is_close c then Some (RParen, text)
    else if is_semicolon c then (if starts is_semicolon text then comment allow LineComment (c ∷ text) (Some (skip (is_neither 10 13) (drop 1 text))) else Some (Reserved, text))
    else if is_mark c then Some (Reserved, text)
    else if goes_on c then word_token allow opened (c ∷ text) (after_word None (c ∷ text))
    else None

-- what a scan of the text from a place on found ends here
abbrev pub EndsAt : List ℕ → ℕ → ℕ → Type 0
EndsAt text from to = (from < to) × (to ≤ length text)

abbrev pub FindsEnd : Option ℕ → List ℕ → ℕ → Option (List ℕ) → Type 0
FindsEnd None text from rest = rest ≡ None
FindsEnd (Some to) text from rest = EndsAt text from to × (rest ≡ Some (drop to text))

abbrev pub FindsRest : Result ℕ LexError → List ℕ → ℕ → Option (List ℕ) → Type 0
FindsRest (Err e) text from rest = rest ≡ None
FindsRest (Ok to) text from rest = (from ≤ to) × (to ≤ length text) × (rest ≡ Some (drop to text))

abbrev pub FindsToken : Result (TokenKind × ℕ) LexError → List ℕ → ℕ → Option (TokenKind × List ℕ) → Type 0
FindsToken (Err e) text from found = found ≡ None
FindsToken (Ok t) text from found = EndsAt text from t.1 × (found ≡ Some (t.0, drop t.1 text))
