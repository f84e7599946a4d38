-- The language of each kind of token, on the bytes of a text (WebAssembly 3.0, 6.2 and 6.3).
use Rattle.std.specs.Prelude.{◌⊎◌, ◌≡◌, ◌≢◌, ℕ, Bool, true, false, not, ◌&&◌, ◌||◌, ◌==◌, nat_lt, nat_le, List, [], ◌∷◌, ◌++◌}
use Rattle.std.specs.List.{list_all}
use Rattle.std.specs.Str.{IsUtf8}
use Rattle.wast_lexer_strings.specs.Strings.{Elements, IsString}
use Rattle.wast_lexer_numbers.specs.declared.kind.NumberKind.{NumberKind}
use Rattle.wast_lexer_numbers.specs.declared.kind.NumberKind.TheVariants as number
use Rattle.wast_lexer_numbers.specs.Numbers.{IsNumber}
use Rattle.wast_lexer.specs.declared.token.TokenKind.{TokenKind}
use Rattle.wast_lexer.specs.declared.token.TokenKind.TheVariants.{LineComment, BlockComment, Whitespace, LParen, RParen, String, Id, Keyword, Annotation, Reserved, Integer, Float}

-- the text begins with a byte that passes
abbrev pub starts : (ℕ → Bool) → List ℕ → Bool
starts p [] = false
starts p (c ∷ text) = p c

-- space, tab, line feed, carriage return (6.2.3)
abbrev pub is_space : ℕ → Bool
is_space c = c == 32 || c == 9 || c == 10 || c == 13

-- line feed, carriage return
abbrev pub is_line_end : ℕ → Bool
is_line_end c = c == 10 || c == 13

abbrev pub is_open : ℕ → Bool
is_open c = c == 40

abbrev pub is_close : ℕ → Bool
is_close c = c == 41

abbrev pub is_semicolon : ℕ → Bool
is_semicolon c = c == 59

abbrev pub is_at : ℕ → Bool
is_at c = c == 64

abbrev pub is_lower : ℕ → Bool
is_lower c = nat_le 97 c && nat_le c 122

-- `,` `[` `]` `{` `}`
abbrev pub is_mark : ℕ → Bool
is_mark c = c == 44 || c == 91 || c == 93 || c == 123 || c == 125

-- identifier characters: printable ASCII, without a space, `"`, `(`, `)`, `;` and the marks (6.3.5)
abbrev pub is_idchar : ℕ → Bool
is_idchar c = (nat_lt 32 c && nat_lt c 127) && not (c == 34 || is_open c || is_close c || is_semicolon c || is_mark c)

-- the three bytes of U+202A, 202B, 202D, 202E, 2066 to 2069 or 206C
abbrev pub is_refused : ℕ → ℕ → ℕ → Bool
is_refused a b c =
    a == 0xE2 && ((b == 0x80 && (c == 0xAA || c == 0xAB || c == 0xAD || c == 0xAE))
    || (b == 0x81 && (c == 0xA6 || c == 0xA7 || c == 0xA8 || c == 0xA9 || c == 0xAC)))

-- one of these characters stands at the front of the text
abbrev pub starts_refused : List ℕ → Bool
starts_refused [] = false
starts_refused (a ∷ []) = false
starts_refused (a ∷ b ∷ []) = false
starts_refused (a ∷ b ∷ c ∷ text) = is_refused a b c

-- none of these characters stands in the text
abbrev pub is_clean : List ℕ → Bool
is_clean [] = true
is_clean (c ∷ text) = not (starts_refused (c ∷ text)) && is_clean text

-- the text may stand in a comment or a string; `allow`: these characters too
abbrev pub may_stand : Bool → List ℕ → Bool
may_stand allow text = allow || is_clean text

-- a byte within a block comment, before this text, that begins neither `(;` nor `;)`
abbrev pub IsLoose : ℕ → List ℕ → Type 0
IsLoose c text = (c ≡ 40 → starts is_semicolon text ≡ false) × (c ≡ 59 → starts is_close text ≡ false)

-- what stands between `(;` and `;)`, where `;)` follows (6.2.4)
pub data Inside : List ℕ → Type 0 where
  Nothing : Inside []
  Byte : {c : ℕ} {text : List ℕ} → IsLoose c (text ++ 59 ∷ []) → Inside text → Inside (c ∷ text)
  Nested : {inner text : List ℕ} → Inside inner → Inside text → Inside (40 ∷ 59 ∷ (inner ++ 59 ∷ 41 ∷ text))

-- `(; .. ;)` (6.2.4)
abbrev pub IsBlockComment : List ℕ → Type 0
IsBlockComment word = (inner : List ℕ) × Inside inner × (word ≡ 40 ∷ 59 ∷ (inner ++ 59 ∷ 41 ∷ []))

-- `;; ..`, on one line (6.2.4)
abbrev pub IsLineComment : List ℕ → Type 0
IsLineComment word = (line : List ℕ) × (list_all (λ c. not (is_line_end c)) line ≡ true) × (word ≡ 59 ∷ 59 ∷ line)

-- identifier characters, and at least one
abbrev pub is_name : List ℕ → Bool
is_name word = starts is_idchar word && list_all is_idchar word

-- identifier characters, which stand for themselves, or a string, which stands for its bytes
abbrev pub IsNameOf : List ℕ → List ℕ → Type 0
IsNameOf name bytes = ((is_name name ≡ true) × (bytes ≡ name)) ⊎ IsString name bytes

-- `$` and a name: an identifier that stands for these bytes (6.3.5)
abbrev pub IsIdOf : List ℕ → List ℕ → Type 0
IsIdOf word bytes = (name : List ℕ) × (word ≡ 36 ∷ name) × IsNameOf name bytes

-- an identifier; whether it is empty or no text is told where it is read
abbrev pub IsId : List ℕ → Type 0
IsId word = (bytes : List ℕ) × IsIdOf word bytes

-- `@` and a name that stands for these bytes, a text that is not empty (6.2.5)
pub record IsAnnotationOf (word bytes : List ℕ) : Type 0 where
  pub name : List ℕ
  pub split : word ≡ 64 ∷ name
  pub is : IsNameOf name bytes
  pub nonempty : bytes ≢ []
  pub utf8 : IsUtf8 bytes

abbrev pub IsAnnotation : List ℕ → Type 0
IsAnnotation word = (bytes : List ℕ) × IsAnnotationOf word bytes

-- identifier characters, the first a small letter, that are no number (6.2.2)
pub record IsKeyword (word : List ℕ) : Type 0 where
  pub lower : starts is_lower word ≡ true
  pub name : is_name word ≡ true
  pub not_number : (kind : NumberKind) → ¬ IsNumber kind word

-- identifier characters and strings, without anything between them
pub data Word : List ℕ → Type 0 where
  Ends : Word []
  Char : {c : ℕ} {text : List ℕ} → is_idchar c ≡ true → Word text → Word (c ∷ text)
  Quoted : {inner bytes text : List ℕ} → Elements inner bytes → Word text → Word (34 ∷ (inner ++ 34 ∷ text))

-- a word that is none of the other kinds (6.2.2, `reserved`)
pub record IsOddWord (word : List ℕ) : Type 0 where
  pub is_word : Word word
  pub not_id : ¬ IsId word
  pub not_number : (kind : NumberKind) → ¬ IsNumber kind word
  pub not_keyword : ¬ IsKeyword word
  pub not_string : (bytes : List ℕ) → ¬ IsString word bytes

-- `,` `;` `[` `]` `{` or `}` alone
abbrev pub IsMark : List ℕ → Type 0
IsMark word = (c : ℕ) × (is_mark c || is_semicolon c ≡ true) × (word ≡ c ∷ [])

-- the language of a kind of token; `allow`: the refused characters may stand in it
abbrev pub IsLexeme : Bool → TokenKind → List ℕ → Type 0
IsLexeme allow Whitespace word = list_all is_space word ≡ true
IsLexeme allow LParen word = word ≡ 40 ∷ []
IsLexeme allow RParen word = word ≡ 41 ∷ []
IsLexeme allow LineComment word = IsLineComment word × (may_stand allow word ≡ true)
IsLexeme allow BlockComment word = IsBlockComment word × (may_stand allow word ≡ true)
IsLexeme allow String word = ((bytes : List ℕ) × IsString word bytes) × (may_stand allow word ≡ true)
IsLexeme allow Id word = IsId word × (may_stand allow word ≡ true)
IsLexeme allow Annotation word = IsAnnotation word × (may_stand allow word ≡ true)
IsLexeme allow Keyword word = IsKeyword word
IsLexeme allow (Integer kind) word = IsNumber (number.Integer kind) word
IsLexeme allow (Float kind) word = IsNumber (number.Float kind) word
IsLexeme allow Reserved word = IsMark word ⊎ (IsOddWord word × (may_stand allow word ≡ true))
