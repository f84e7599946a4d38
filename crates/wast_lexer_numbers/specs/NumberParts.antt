-- What the readers of numbers answer: the parts of a word, as they are written.
use Rattle.std.specs.Prelude.{Option, Some, None, ◌≡◌, ℕ, Bool, true, List, ◌++◌}
use denote.Ref.{Bor}
use Rattle.wast_lexer_numbers.specs.declared.kind.SignToken.{SignToken}
use Rattle.wast_lexer_numbers.specs.declared.parts.Integer.{Integer}
use Rattle.wast_lexer_numbers.specs.declared.parts.Float.{Float}
use Rattle.wast_lexer_numbers.specs.declared.parts.Float.TheVariants.{Inf, Nan, Val}
use Rattle.wast_lexer_numbers.specs.Numbers.{Digits, sign_text, base_text, inf, nan, nan_prefix, IsMagnitude}

-- the text of a part, where it is there
abbrev pub text_now : Option (Bor (List ℕ)) → Option (List ℕ)
text_now None = None
text_now (Some t) = Some t.now

-- the parts of an integer
abbrev pub integer_sign : Integer → Option SignToken
integer_sign i = i.sign

abbrev pub integer_digits : Integer → List ℕ
integer_digits i = i.digits.now

abbrev pub is_hexadecimal : Integer → Bool
is_hexadecimal i = i.hex

-- the word is the integer's sign, `0x` where it is hexadecimal, and its digits
abbrev pub IsIntegerOf : List ℕ → Integer → Type 0
IsIntegerOf word i = Digits (is_hexadecimal i) (integer_digits i) × (word ≡ sign_text (integer_sign i) ++ (base_text (is_hexadecimal i) ++ integer_digits i))

-- the word is the float's sign and parts
abbrev pub IsFloatOf : List ℕ → Float → Type 0
IsFloatOf word (Inf sign) = word ≡ sign_text sign ++ inf
IsFloatOf word (Nan sign None) = word ≡ sign_text sign ++ nan
IsFloatOf word (Nan sign (Some digits)) = Digits true digits.now × (word ≡ sign_text sign ++ (nan_prefix ++ digits.now))
IsFloatOf word (Val sign hex integral fraction exponent) =
    (text : List ℕ) × IsMagnitude hex (record { integral = integral.now; fraction = text_now fraction; exponent = text_now exponent }) text × (word ≡ sign_text sign ++ (base_text hex ++ text))
