-- The bytes of numbers.
use Rattle.std.proofs.Common.{◌≡◌, ℕ, Bool, true, false, ◌&&◌, ◌||◌, inl, inr, List, [], ◌∷◌, ◌++◌, Option, Some, None, refl, ◌∙◌, ap, arith}
use Rattle.std.specs.Prelude.{◌==◌, nat_le}
use Rattle.std.specs.List.{list_all}
use Rattle.std.proofs.lemmas.Bool.Decides.{nat_tests}
use Rattle.std.proofs.lemmas.Bool.{or_cases, and_parts}
use Rattle.wast_lexer_numbers.specs.declared.kind.SignToken.{SignToken}
use Rattle.wast_lexer_numbers.specs.declared.kind.SignToken.TheVariants.{Plus, Minus}
use Rattle.wast_lexer_numbers.specs.declared.kind.FloatKind.TheVariants.{Inf, Nan, NanVal, Normal}
use Rattle.wast_lexer_numbers.specs.declared.kind.NumberKind.{NumberKind}
use Rattle.wast_lexer_numbers.specs.declared.kind.NumberKind.TheVariants.{Integer, Float}
use Rattle.wast_lexer_numbers.specs.Numbers.{is_digit, is_base, is_power, Digits, sign_text, base_text, IsFraction, IsExponent, IsUnsigned, IsNumber}
use Rattle.wast_lexer_numbers.specs.Numbers.Digits.{Last, Next, Gap}

-- digits, letters, and `+` `-` `.` `:` `_`
abbrev pub is_number_byte : ℕ → Bool
is_number_byte c = is_digit c || (nat_le 65 c && nat_le c 90) || (nat_le 97 c && nat_le c 122) || (c == 43 || c == 45 || c == 46 || c == 58 || c == 95)

pub all_append : (p : ℕ → Bool) (a b : List ℕ) → list_all p a ≡ true → list_all p b ≡ true → list_all p (a ++ b) ≡ true
all_append p [] b h k = k
all_append p (c ∷ a) b h k = let both = and_parts (p c) (list_all p a) h in rw both.0 (all_append p a b both.1 k)

base_byte : (hex : Bool) (c : ℕ) → is_base hex c ≡ true → is_number_byte c ≡ true
base_byte false c h = rw h refl
base_byte true c h = elim (or_cases (is_digit c || (nat_le 65 c && nat_le c 70)) (nat_le 97 c && nat_le c 102) h) [
  | inl i ↦ elim (or_cases (is_digit c) (nat_le 65 c && nat_le c 70) i) [ inl j ↦ rw j refl | inr j ↦ grind (arith, nat_tests) ]
  | inr i ↦ grind (arith, nat_tests)
]

power_byte : (hex : Bool) (c : ℕ) → is_power hex c ≡ true → is_number_byte c ≡ true
power_byte true c h = grind (arith, nat_tests)
power_byte false c h = grind (arith, nat_tests)

digits_all : (hex : Bool) (ds : List ℕ) → Digits hex ds → list_all is_number_byte ds ≡ true
digits_all hex ds (Last c p) = rw (base_byte hex c p) refl
digits_all hex ds (Next c text p d) = rw (base_byte hex c p) (digits_all hex text d)
digits_all hex ds (Gap c text p d) = rw (base_byte hex c p) (digits_all hex text d)

sign_all : (s : Option SignToken) → list_all is_number_byte (sign_text s) ≡ true
sign_all None = refl
sign_all (Some Plus) = refl
sign_all (Some Minus) = refl

base_all : (hex : Bool) → list_all is_number_byte (base_text hex) ≡ true
base_all true = refl
base_all false = refl

fraction_all : (hex : Bool) (f : Option (List ℕ)) (text : List ℕ) → IsFraction hex f text → list_all is_number_byte text ≡ true
fraction_all hex None text h = ap (list_all is_number_byte) h
fraction_all hex (Some digits) text (inl none, split) = ap (list_all is_number_byte) (split ∙ ap (λ (y : List ℕ). 46 ∷ y) none)
fraction_all hex (Some digits) text (inr ds, split) = ap (list_all is_number_byte) split ∙ digits_all hex digits ds

exponent_all : (hex : Bool) (e : Option (List ℕ)) (text : List ℕ) → IsExponent hex e text → list_all is_number_byte text ≡ true
exponent_all hex None text h = ap (list_all is_number_byte) h
exponent_all hex (Some power) text (letter, sign, digits, is, ds, split, whole) =
    ap (list_all is_number_byte) (whole ∙ ap (λ (y : List ℕ). letter ∷ y) split) ∙ (rw (power_byte hex letter is) (all_append is_number_byte (sign_text sign) digits (sign_all sign) (digits_all false digits ds)))

unsigned_all : (sign : Option SignToken) (k : NumberKind) (text : List ℕ) → IsUnsigned sign k text → list_all is_number_byte text ≡ true
unsigned_all sign (Integer kind) text u = ap (list_all is_number_byte) u.3 ∙ all_append is_number_byte (base_text kind.hex) u.0 (base_all kind.hex) (digits_all kind.hex u.0 u.1)
unsigned_all sign (Float Inf) text u = ap (list_all is_number_byte) u
unsigned_all sign (Float Nan) text u = ap (list_all is_number_byte) u
unsigned_all sign (Float NanVal) text u = ap (list_all is_number_byte) u.2 ∙ digits_all true u.0 u.1
unsigned_all sign (Float Normal) text u =
    let m = u.3 in
    ap (list_all is_number_byte) (u.5 ∙ ap (λ y. base_text u.0 ++ y) m.split)
    ∙ all_append is_number_byte (base_text u.0) (u.1.integral ++ (m.fraction ++ m.exponent)) (base_all u.0)
    (all_append is_number_byte u.1.integral (m.fraction ++ m.exponent) (digits_all u.0 u.1.integral m.digits)
    (all_append is_number_byte m.fraction m.exponent (fraction_all u.0 u.1.fraction m.fraction m.is_fraction) (exponent_all u.0 u.1.exponent m.exponent m.is_exponent)))

-- a number is such bytes
pub number_bytes : (k : NumberKind) (w : List ℕ) → IsNumber k w → list_all is_number_byte w ≡ true
number_bytes k w (sign, text, u, split) = ap (list_all is_number_byte) split ∙ all_append is_number_byte (sign_text sign) text (sign_all sign) (unsigned_all sign k text u)

pub all_more : (p q : ℕ → Bool) → ((c : ℕ) → p c ≡ true → q c ≡ true) → (w : List ℕ) → list_all p w ≡ true → list_all q w ≡ true
all_more p q f [] h = refl
all_more p q f (c ∷ w) h = let both = and_parts (p c) (list_all p w) h in rw (f c both.0) (all_more p q f w both.1)
