-- The laws of tokens.
use Rattle.std.specs.Prelude.{◌≡◌, ◌==◌, not, ℕ, Bool, List, [], ◌∷◌, ◌++◌, encode_utf8_all}
use Rattle.std.specs.List.{list_all, list_any}
use Rattle.wast_lexer.specs.declared.token.TokenKind.{TokenKind}
use Rattle.wast_lexer.specs.Kinds.{is_clean}
use Rattle.wast_lexer.specs.Lexeme.{Lexeme}
use Rattle.wast_lexer.specs.Tiling.{Begins, Tiles}

-- a text is at most one list of tokens, with one setting for the refused characters
abbrev pub OneTiling : Type 0
OneTiling = (allow opened : Bool) (from : ℕ) (text : List ℕ) (ts us : List Lexeme) → Tiles allow opened from text ts → Tiles allow opened from text us → ts ≡ us

-- at most one token begins a text, whatever follows it
abbrev pub OneToken : Type 0
OneToken =
    (allow opened : Bool) (j k : TokenKind) (v w r s : List ℕ) → Begins allow opened j v r → Begins allow opened k w s → v ++ r ≡ w ++ s → (j ≡ k) × (v ≡ w) × (r ≡ s)

-- the nine characters that a reader may take for others
abbrev pub confusing : List ℕ
confusing = 0x202A ∷ 0x202B ∷ 0x202D ∷ 0x202E ∷ 0x2066 ∷ 0x2067 ∷ 0x2068 ∷ 0x2069 ∷ 0x206C ∷ []

-- a text is clean exactly where none of its characters is one of the nine
abbrev pub NineAreRefused : Type 0
NineAreRefused = (chars : List ℕ) → is_clean (encode_utf8_all chars) ≡ list_all (λ c. not (list_any (λ n. c == n) confusing)) chars
