-- What a number is (WebAssembly 3.0, 6.3.1 and 6.3.2), on the bytes of a word. What it stands for is not said here.
use Rattle.std.specs.Prelude.{Option, Some, None, is_some, nat_le, ◌≡◌, ◌⊎◌, ℕ, Bool, true, false, ◌&&◌, ◌||◌, ◌==◌, List, [], ◌∷◌, ◌++◌}
use Rattle.wast_lexer_numbers.specs.declared.kind.SignToken.{SignToken}
use Rattle.wast_lexer_numbers.specs.declared.kind.SignToken.TheVariants.{Plus, Minus}
use Rattle.wast_lexer_numbers.specs.declared.kind.FloatKind.TheVariants.{Inf, Nan, NanVal, Normal}
use Rattle.wast_lexer_numbers.specs.declared.kind.NumberKind.{NumberKind}
use Rattle.wast_lexer_numbers.specs.declared.kind.NumberKind.TheVariants.{Integer, Float}

abbrev pub is_digit : ℕ → Bool
is_digit c = nat_le 48 c && nat_le c 57

abbrev pub is_hex : ℕ → Bool
is_hex c = is_digit c || (nat_le 65 c && nat_le c 70) || (nat_le 97 c && nat_le c 102)

-- a digit, decimal or hexadecimal
abbrev pub is_base : Bool → ℕ → Bool
is_base false c = is_digit c
is_base true c = is_hex c

-- the letter before an exponent: `e`, or `p` behind hexadecimal digits
abbrev pub is_power : Bool → ℕ → Bool
is_power false c = c == 69 || c == 101
is_power true c = c == 80 || c == 112

-- digits, with single `_` between them (6.3.1, `num` and `hexnum`)
pub data Digits (hex : Bool) : List ℕ → Type 0 where
  Last : (c : ℕ) → is_base hex c ≡ true → Digits hex (c ∷ [])
  Next : (c : ℕ) (text : List ℕ) → is_base hex c ≡ true → Digits hex text → Digits hex (c ∷ text)
  Gap : (c : ℕ) (text : List ℕ) → is_base hex c ≡ true → Digits hex text → Digits hex (c ∷ 95 ∷ text)

-- `+`, `-`, or nothing
abbrev pub sign_text : Option SignToken → List ℕ
sign_text None = []
sign_text (Some Plus) = 43 ∷ []
sign_text (Some Minus) = 45 ∷ []

-- `0x`, or nothing
abbrev pub base_text : Bool → List ℕ
base_text false = []
base_text true = 48 ∷ 120 ∷ []

-- the parts of a magnitude: its first digits, those behind its point, and its exponent with its sign
pub record Parts : Type 0 where
  pub integral : List ℕ
  pub fraction : Option (List ℕ)
  pub exponent : Option (List ℕ)

-- a point and digits, a point alone, or nothing (6.3.2)
abbrev pub IsFraction : Bool → Option (List ℕ) → List ℕ → Type 0
IsFraction hex None text = text ≡ []
IsFraction hex (Some digits) text = ((digits ≡ []) ⊎ Digits hex digits) × (text ≡ 46 ∷ digits)

-- a letter, a sign and decimal digits, or nothing (6.3.2)
abbrev pub IsExponent : Bool → Option (List ℕ) → List ℕ → Type 0
IsExponent hex None text = text ≡ []
IsExponent hex (Some power) text =
    (letter : ℕ) × (sign : Option SignToken) × (digits : List ℕ) × (is_power hex letter ≡ true) × Digits false digits × (power ≡ sign_text sign ++ digits) × (text ≡ letter ∷ power)

-- the text is written so (6.3.2, `float` and `hexfloat`)
pub record IsMagnitude (hex : Bool) (p : Parts) (text : List ℕ) : Type 0 where
  pub fraction : List ℕ
  pub exponent : List ℕ
  pub digits : Digits hex p.integral
  pub is_fraction : IsFraction hex p.fraction fraction
  pub is_exponent : IsExponent hex p.exponent exponent
  pub split : text ≡ p.integral ++ (fraction ++ exponent)

-- with a point or an exponent; with neither, the magnitude is an integer's
abbrev pub is_float : Parts → Bool
is_float p = is_some p.fraction || is_some p.exponent

abbrev pub inf : List ℕ
inf = 105 ∷ 110 ∷ 102 ∷ []

abbrev pub nan : List ℕ
nan = 110 ∷ 97 ∷ 110 ∷ []

-- `nan:0x`
abbrev pub nan_prefix : List ℕ
nan_prefix = 110 ∷ 97 ∷ 110 ∷ 58 ∷ 48 ∷ 120 ∷ []

-- a number of this kind, behind its sign
abbrev pub IsUnsigned : Option SignToken → NumberKind → List ℕ → Type 0
IsUnsigned sign (Integer kind) text = (digits : List ℕ) × Digits kind.hex digits × (kind.sign ≡ sign) × (text ≡ base_text kind.hex ++ digits)
IsUnsigned sign (Float Inf) text = text ≡ inf
IsUnsigned sign (Float Nan) text = text ≡ nan
IsUnsigned sign (Float NanVal) text = (digits : List ℕ) × Digits true digits × (text ≡ nan_prefix ++ digits)
IsUnsigned sign (Float Normal) text = (hex : Bool) × (p : Parts) × (rest : List ℕ) × IsMagnitude hex p rest × (is_float p ≡ true) × (text ≡ base_text hex ++ rest)

-- the word is a number of this kind
abbrev pub IsNumber : NumberKind → List ℕ → Type 0
IsNumber kind word = (sign : Option SignToken) × (text : List ℕ) × IsUnsigned sign kind text × (word ≡ sign_text sign ++ text)
