-- The laws of tokens that the crate's law functions prove.
use Rattle.std.specs.Prelude.{◌≡◌, ◌≢◌, ◌⊎◌, ◌↔◌, ℕ, Bool, true, false, List, [], ◌++◌, Option, Some, None}
use Rattle.std.specs.Str.{IsUtf8}
use Rattle.wast_lexer.specs.Strings.{IsString}
use Rattle.wast_lexer.specs.SignToken.{SignToken}
use Rattle.wast_lexer.specs.SignToken.TheVariants.{Plus, Minus}
use Rattle.wast_lexer.specs.Numbers.{Digits, sign_text, base_text}
use Rattle.wast_lexer.specs.Kinds.{IsId, IsIdOf, IsAnnotationOf}
use Rattle.wast_lexer.specs.Lexeme.{Lexeme}
use Rattle.wast_grammar.specs.Tokens.{literal, number, base_of, string_value, marked_value, id_name, is_whole}
use Rattle.wast_grammar.specs.Significant.{TextToken, IsSignificant, AreSignificant, IsShown, significant}

-- WHAT TEXTS SAY
-- The bytes that a string stands for are those that `string_value` reads (6.3.3).
abbrev pub StringValue : Type 0
StringValue = (text bytes : List ℕ) → IsString text bytes → string_value text ≡ bytes

-- The name of an annotation is the one that `marked_value` reads (6.2.5).
abbrev pub AnnotationName : Type 0
AnnotationName = (text bytes : List ℕ) → IsAnnotationOf text bytes → marked_value text ≡ bytes

-- An identifier has a name exactly where it stands for a text that is not empty, and that is its name (6.3.5).
abbrev pub IdentifierName : Type 0
IdentifierName = (text name : List ℕ) → IsId text → (id_name text ≡ Some name) ↔ (IsIdOf text name × (name ≢ []) × IsUtf8 name)

-- It has none exactly where it stands for nothing, or for bytes that are no text.
abbrev pub NamelessIdentifier : Type 0
NamelessIdentifier = (text : List ℕ) → IsId text → (id_name text ≡ None) ↔ (IsIdOf text [] ⊎ ((bytes : List ℕ) × IsIdOf text bytes × ¬ IsUtf8 bytes))

abbrev pub says_minus : Option SignToken → Bool
says_minus (Some Minus) = true
says_minus (Some Plus) = false
says_minus None = false

-- An integer says its sign, and the number that its digits say in its base (6.3.1).
abbrev pub IntegerValue : Type 0
IntegerValue =
    (sign : Option SignToken) (hex : Bool) (digits : List ℕ) → Digits hex digits →
    literal (sign_text sign ++ (base_text hex ++ digits)) ≡ record { minus = says_minus sign; size = number (base_of hex) digits }

-- WHICH TOKENS ARE SIGNIFICANT
-- `significant` gives what is shown, and nothing else is.
abbrev pub ShownTokens : Type 0
ShownTokens = (names : List (List ℕ)) (broken : Bool) (ls : List Lexeme) (ts : List TextToken) → IsShown names broken ls ts ↔ (significant names broken ls ≡ ts)

-- There are significant tokens exactly where `significant` meets no fault, and they are those that it gives.
abbrev pub SignificantTokens : Type 0
SignificantTokens = (names : List (List ℕ)) (ls : List Lexeme) (ts : List TextToken) → IsSignificant names ls ts ↔ ((significant names false ls ≡ ts) × (is_whole ts ≡ true))

-- A text has one list of significant tokens at most.
abbrev pub OneList : Type 0
OneList = (allow : Bool) (names : List (List ℕ)) (text : List ℕ) (ts us : List TextToken) → AreSignificant allow names text ts → AreSignificant allow names text us → ts ≡ us
