-- A text as tokens that lie end to end (WebAssembly 3.0, 6.2.2).
use Rattle.std.specs.Prelude.{◌≡◌, ◌≢◌, ◌+◌, ℕ, Bool, true, false, not, ◌&&◌, ◌||◌, List, [], ◌∷◌, ◌++◌, length}
use Rattle.wast_lexer_strings.specs.Strings.{is_quote}
use Rattle.wast_lexer.specs.declared.token.TokenKind.{TokenKind}
use Rattle.wast_lexer.specs.declared.token.TokenKind.TheVariants.{LineComment, BlockComment, Whitespace, LParen, RParen, Annotation, Reserved}
use Rattle.wast_lexer.specs.Kinds.{IsLexeme, starts, is_space, is_line_end, is_open, is_semicolon, is_idchar, is_at}
use Rattle.wast_lexer.specs.Lexeme.{Lexeme}

-- a byte that a word goes on with
abbrev pub goes_on : ℕ → Bool
goes_on c = is_idchar c || is_quote c

-- the rest may follow a token of this kind and text: each token is the longest, and `;;` and `(;` begin comments alone
abbrev pub MayFollow : TokenKind → List ℕ → List ℕ → Type 0
MayFollow Whitespace word rest = starts is_space rest ≡ false
MayFollow LineComment word rest = starts (λ c. not (is_line_end c)) rest ≡ false
MayFollow BlockComment word rest = Unit {0}
MayFollow LParen word rest = starts is_semicolon rest ≡ false
MayFollow RParen word rest = Unit {0}
MayFollow Reserved word rest = (starts is_semicolon word ≡ true → starts is_semicolon rest ≡ false) × (starts goes_on word ≡ true → starts goes_on rest ≡ false)
MayFollow _ word rest = starts goes_on rest ≡ false

abbrev pub is_annotation : TokenKind → Bool
is_annotation Annotation = true
is_annotation _ = false

-- a token of this kind and text stands before the rest; `opened`: right after `(`, where what begins with `@` is an
-- annotation, as it is nowhere else
pub record Begins (allow opened : Bool) (kind : TokenKind) (word rest : List ℕ) : Type 0 where
  pub nonempty : word ≢ []
  pub lexeme : IsLexeme allow kind word
  pub follow : MayFollow kind word rest
  pub marked : is_annotation kind ≡ (opened && starts is_at word)

-- the text ends with a byte that passes
abbrev pub ends : (ℕ → Bool) → List ℕ → Bool
ends p [] = false
ends p (c ∷ []) = p c
ends p (c ∷ d ∷ text) = ends p (d ∷ text)

-- the text is these tokens, and its first byte stands at this place
abbrev pub Tiles : Bool → Bool → ℕ → List ℕ → List Lexeme → Type 0
Tiles allow opened from text [] = text ≡ []
Tiles allow opened from text (t ∷ ts) =
    (rest : List ℕ) × (t.place ≡ from) × (text ≡ t.text ++ rest) × Begins allow opened t.kind t.text rest × Tiles allow (ends is_open t.text) (from + length t.text) rest ts

-- the text begins with these tokens, from one place up to another, and this follows them; `opens`: right after `(`
abbrev pub TilesUpTo : Bool → Bool → ℕ → List ℕ → List Lexeme → Bool → ℕ → List ℕ → Type 0
TilesUpTo allow opened from text [] opens to follows = (from ≡ to) × (opened ≡ opens) × (text ≡ follows)
TilesUpTo allow opened from text (t ∷ ts) opens to follows =
    (rest : List ℕ) × (t.place ≡ from) × (text ≡ t.text ++ rest) × Begins allow opened t.kind t.text rest × TilesUpTo allow (ends is_open t.text) (from + length t.text) rest ts opens to follows
