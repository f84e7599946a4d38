-- The scan of a number and its grammar.
use Rattle.std.proofs.Common.{◌≡◌, ◌↔◌, ℕ, Bool, true, false, ◌||◌, List, [], ◌∷◌, ◌++◌, Option, Some, None, is_some, refl, sym, ◌∙◌, ap, subst, ◌⊎◌, inl, inr, arith, append-nil}
use Rattle.std.specs.Prelude.{◌==◌}
use Rattle.std.proofs.Math.Bool.{or-true}
use Rattle.std.proofs.lemmas.Bool.{cases_Bool, or_cases, and_parts, eqb-true}
use Rattle.std.proofs.lemmas.Bool.Decides.{nat_tests}
use Rattle.wast_lexer_numbers.specs.declared.kind.SignToken.{SignToken}
use Rattle.wast_lexer_numbers.specs.declared.kind.SignToken.TheVariants.{Plus, Minus}
use Rattle.wast_lexer_numbers.specs.declared.kind.IntegerKind.{IntegerKind}
use Rattle.wast_lexer_numbers.specs.declared.kind.FloatKind.TheVariants.{Inf, Nan, NanVal, Normal}
use Rattle.wast_lexer_numbers.specs.declared.kind.NumberKind.{NumberKind}
use Rattle.wast_lexer_numbers.specs.declared.kind.NumberKind.TheVariants.{Integer, Float}
use Rattle.wast_lexer_numbers.specs.Numbers.{is_digit, is_base, is_power, Digits, sign_text, base_text, Parts, IsFraction, IsExponent, IsMagnitude, is_float, inf, nan, nan_prefix, IsUnsigned, IsNumber}
use Rattle.wast_lexer_numbers.specs.Numbers.Digits.{Last, Next, Gap}
use Rattle.wast_lexer_numbers.specs.FloatSteps.{exponent_of}
use Rattle.wast_lexer_numbers.specs.NumberScan.{begins_number, after, prefixed, sign_of, unsigned, is_all, ends_power, power_after, ends_fraction, float_if, kind_after, magnitude, nan_if, based, payload, body, number}
use Rattle.wast_lexer_numbers.proofs.DigitLaws.{digits_scanned, scanned_digits}

-- ---- what is written is scanned
-- the first byte of digits is one
digit_no_sign : (hex : Bool) (c : ℕ) → is_base hex c ≡ true → ((c == 43) ≡ false) × ((c == 45) ≡ false)
digit_no_sign true c h = (grind (arith, nat_tests), grind (arith, nat_tests))
digit_no_sign false c h = (grind (arith, nat_tests), grind (arith, nat_tests))

-- no sign stands in front
abbrev NoSign : List ℕ → Type 0
NoSign text = (unsigned text ≡ text) × (sign_of text ≡ None)

no_sign : (c : ℕ) (text : List ℕ) → (c == 43) ≡ false → (c == 45) ≡ false → NoSign (c ∷ text)
no_sign c text p m = (rw (p, m) refl, rw (p, m) refl)

digits_no_sign : (hex : Bool) (ds rest : List ℕ) → Digits hex ds → NoSign (ds ++ rest)
digits_no_sign hex ds rest (Last c p) = let a = digit_no_sign hex c p in no_sign c rest a.0 a.1
digits_no_sign hex ds rest (Next c text p d) = let a = digit_no_sign hex c p in no_sign c (text ++ rest) a.0 a.1
digits_no_sign hex ds rest (Gap c text p d) = let a = digit_no_sign hex c p in no_sign c (95 ∷ (text ++ rest)) a.0 a.1

signed : (sign : Option SignToken) (text : List ℕ) → NoSign text → (unsigned (sign_text sign ++ text) ≡ text) × (sign_of (sign_text sign ++ text) ≡ sign)
signed None text n = n
signed (Some Plus) text n = (refl, refl)
signed (Some Minus) text n = (refl, refl)

all_digits : (hex : Bool) (ds : List ℕ) → Digits hex ds → (gap : Bool) → is_all (after hex gap ds) ≡ true
all_digits hex ds d gap = ap is_all (sym (ap (after hex gap) (append-nil ds)) ∙ digits_scanned hex ds [] d refl gap)

exponent_ends : (hex : Bool) (e : Option (List ℕ)) (text : List ℕ) → IsExponent hex e text → ends_power hex text ≡ true
exponent_ends hex None text h = ap (ends_power hex) h
exponent_ends hex (Some power) text (letter, sign, digits, is, ds, split, whole) =
    let none : NoSign digits = subst NoSign (append-nil digits) (digits_no_sign false digits [] ds) in
    ap (ends_power hex) (whole ∙ ap (λ (y : List ℕ). letter ∷ y) split)
    ∙ (rw (is, (signed sign digits none).0) (all_digits false digits ds true))

-- neither a point nor an exponent goes on with digits
point_stops : (hex : Bool) (text : List ℕ) → after hex false (46 ∷ text) ≡ Some (46 ∷ text)
point_stops true text = refl
point_stops false text = refl

power_apart : (hex : Bool) (c : ℕ) → is_power hex c ≡ true → (is_base hex c ≡ false) × ((c == 95) ≡ false) × ((c == 46) ≡ false)
power_apart true c h = elim (or_cases (c == 80) (c == 112) h) [ inl i ↦ rw (eqb-true c 80 i) (refl, refl, refl) | inr i ↦ rw (eqb-true c 112 i) (refl, refl, refl) ]
power_apart false c h = elim (or_cases (c == 69) (c == 101) h) [ inl i ↦ rw (eqb-true c 69 i) (refl, refl, refl) | inr i ↦ rw (eqb-true c 101 i) (refl, refl, refl) ]

exponent_stops : (hex : Bool) (e : Option (List ℕ)) (text : List ℕ) → IsExponent hex e text → after hex false text ≡ Some text
exponent_stops hex None text h = rw h refl
exponent_stops hex (Some power) text x = let a = power_apart hex x.0 x.3 in rw x.6 (rw (after, a.0, a.1) refl)

fraction_ends : (hex : Bool) (digits : List ℕ) (e : Option (List ℕ)) (text : List ℕ) → (digits ≡ []) ⊎ Digits hex digits → IsExponent hex e text → ends_fraction hex (digits ++ text) ≡ true
fraction_ends hex digits e text (inl none) x = rw none (rw (exponent_ends hex e text x) refl)
fraction_ends hex digits e text (inr ds) x = rw (digits_scanned hex digits text ds (exponent_stops hex e text x) true) (rw (exponent_ends hex e text x) (or-true (ends_power hex (digits ++ text))))

float_after : (hex : Bool) (sign : Option SignToken) (f e : Option (List ℕ)) (fraction exponent : List ℕ) → IsFraction hex f fraction → IsExponent hex e exponent → (is_some f || is_some e) ≡ true
    → (after hex false (fraction ++ exponent) ≡ Some (fraction ++ exponent)) × (kind_after hex sign (Some (fraction ++ exponent)) ≡ Some (Float Normal))
float_after hex sign (Some digits) e fraction exponent isf ise some =
    rw isf.1 (point_stops hex (digits ++ exponent), ap float_if (fraction_ends hex digits e exponent isf.0 ise))
float_after hex sign None None fraction exponent isf ise some = absurd (cc)
float_after hex sign None (Some power) fraction exponent isf ise some =
    let a = power_apart hex ise.0 ise.3 in
    let stops = exponent_stops hex (Some power) exponent ise in
    let ends = exponent_ends hex (Some power) exponent ise in
    rw isf (stops, rw ise.6 (rw a.2 (ap float_if (rw ise.6 at ends))))

magnitude_scanned : (hex : Bool) (sign : Option SignToken) (p : Parts) (text : List ℕ) → IsMagnitude hex p text → is_float p ≡ true → magnitude hex sign text ≡ Some (Float Normal)
magnitude_scanned hex sign p text m some =
    let f = float_after hex sign p.fraction p.exponent m.fraction m.exponent m.is_fraction m.is_exponent some in
    ap (magnitude hex sign) m.split ∙ ap (kind_after hex sign) (digits_scanned hex p.integral (m.fraction ++ m.exponent) m.digits f.0 true) ∙ f.1

integer_scanned : (hex : Bool) (sign : Option SignToken) (ds : List ℕ) → Digits hex ds → magnitude hex sign ds ≡ Some (Integer (record { sign = sign; hex = hex }))
integer_scanned hex sign ds d = ap (kind_after hex sign) (sym (ap (after hex true) (append-nil ds)) ∙ digits_scanned hex ds [] d refl true)

-- a decimal magnitude is none of the other forms
decimal_body : (sign : Option SignToken) (text : List ℕ) (k : NumberKind) → magnitude false sign text ≡ Some k → body sign text ≡ Some k
decimal_body sign [] k h = absurd (cc)
decimal_body sign (c ∷ text) k h = elim (cases_Bool (c == 105)) [
  | inl i ↦ (let h' = rw (eqb-true c 105 i) at h in absurd (cc))
  | inr i ↦ elim (cases_Bool (c == 110)) [
    | inl n ↦ (let h' = rw (eqb-true c 110 n) at h in absurd (cc))
    | inr n ↦ elim (cases_Bool (c == 48)) [
      | inl z ↦ at_zero (eqb-true c 48 z) text h
      | inr z ↦ rw (i, n, z) h
    ]
  ]
]
  where
    at_zero : c ≡ 48 → (text : List ℕ) → magnitude false sign (c ∷ text) ≡ Some k → body sign (c ∷ text) ≡ Some k
    at_zero z [] h = rw z (rw z at h)
    at_zero z (d ∷ text) h = elim (cases_Bool (d == 120)) [
      | inl x ↦ (let h' = rw (z, eqb-true d 120 x) at h in absurd (cc))
      | inr x ↦ rw z (rw x (rw z at h))
    ]

based_body : (hex : Bool) (sign : Option SignToken) (text : List ℕ) (k : NumberKind) → magnitude hex sign text ≡ Some k → body sign (base_text hex ++ text) ≡ Some k
based_body true sign text k h = h
based_body false sign text k h = decimal_body sign text k h

body_scanned : (sign : Option SignToken) (k : NumberKind) (text : List ℕ) → IsUnsigned sign k text → body sign text ≡ Some k
body_scanned sign (Integer kind) text u =
    let same : record { sign = sign; hex = kind.hex } ≡ kind = ap (λ (s : Option SignToken). let i : IntegerKind = record { sign = s; hex = kind.hex } in i) (sym u.2) in
    ap (body sign) u.3 ∙ based_body kind.hex sign u.0 (Integer kind) (integer_scanned kind.hex sign u.0 u.1 ∙ ap (λ (i : IntegerKind). let o : Option NumberKind = Some (Integer i) in o) same)
body_scanned sign (Float Inf) text u = ap (body sign) u
body_scanned sign (Float Nan) text u = ap (body sign) u
body_scanned sign (Float NanVal) text u = ap (body sign) u.2 ∙ ap nan_if (all_digits true u.0 u.1 true)
body_scanned sign (Float Normal) text u = ap (body sign) u.5 ∙ based_body u.0 sign u.2 (Float Normal) (magnitude_scanned u.0 sign u.1 u.2 u.3 u.4)

base_no_sign : (hex : Bool) (ds rest : List ℕ) → Digits hex ds → NoSign (base_text hex ++ (ds ++ rest))
base_no_sign true ds rest d = (refl, refl)
base_no_sign false ds rest d = digits_no_sign false ds rest d

unsigned_no_sign : (sign : Option SignToken) (k : NumberKind) (text : List ℕ) → IsUnsigned sign k text → NoSign text
unsigned_no_sign sign (Integer kind) text u = subst NoSign (ap (λ y. base_text kind.hex ++ y) (append-nil u.0) ∙ sym u.3) (base_no_sign kind.hex u.0 [] u.1)
unsigned_no_sign sign (Float Inf) text u = subst NoSign (sym u) (refl, refl)
unsigned_no_sign sign (Float Nan) text u = subst NoSign (sym u) (refl, refl)
unsigned_no_sign sign (Float NanVal) text u = subst NoSign (sym u.2) (refl, refl)
unsigned_no_sign sign (Float Normal) text u =
    let m = u.3 in
    subst NoSign (ap (λ y. base_text u.0 ++ y) (sym m.split) ∙ sym u.5) (base_no_sign u.0 u.1.integral (m.fraction ++ m.exponent) m.digits)

pub number_scanned : (word : List ℕ) (k : NumberKind) → IsNumber k word → number word ≡ Some k
number_scanned word k n =
    let s = signed n.0 n.1 (unsigned_no_sign n.0 k n.1 n.2) in
    ap number n.3 ∙ ap (λ i. body i (unsigned (sign_text n.0 ++ n.1))) s.1 ∙ ap (body n.0) s.0 ∙ body_scanned n.0 k n.1 n.2

-- ---- what is scanned is so written
pub prefixed_split : (bytes text rest : List ℕ) → prefixed bytes text ≡ Some rest → text ≡ bytes ++ rest
prefixed_split [] text rest h = cc
prefixed_split (b ∷ bytes) [] rest h = absurd (cc)
prefixed_split (b ∷ bytes) (c ∷ text) rest h = elim (cases_Bool (c == b)) [
  | inl e ↦ (let more = prefixed_split bytes text rest (rw e at h) in ap (λ (i : ℕ). i ∷ text) (eqb-true c b e) ∙ ap (λ (y : List ℕ). b ∷ y) more)
  | inr e ↦ (let h' = rw e at h in absurd (cc))
]

all_is : (o : Option (List ℕ)) → is_all o ≡ true → o ≡ Some []
all_is None h = absurd (cc)
all_is (Some []) h = refl
all_is (Some (c ∷ text)) h = absurd (cc)

whole : (bytes text : List ℕ) → is_all (prefixed bytes text) ≡ true → text ≡ bytes
whole bytes text h = prefixed_split bytes text [] (all_is (prefixed bytes text) h) ∙ append-nil bytes

digits_all : (hex : Bool) (text : List ℕ) → is_all (after hex true text) ≡ true → Digits hex text
digits_all hex text h =
    let s = scanned_digits hex text true [] (all_is (after hex true text) h) in
    subst (Digits hex) (sym (s.2 ∙ append-nil s.0)) s.1

pub sign_split : (text : List ℕ) → text ≡ sign_text (sign_of text) ++ unsigned text
sign_split [] = refl
sign_split (c ∷ text) = elim (cases_Bool (c == 43)) [
  | inl p ↦ rw p (ap (λ (i : ℕ). i ∷ text) (eqb-true c 43 p))
  | inr p ↦ elim (cases_Bool (c == 45)) [
    | inl m ↦ rw (p, m) (ap (λ (i : ℕ). i ∷ text) (eqb-true c 45 m))
    | inr m ↦ rw (p, m) refl
  ]
]

-- what is left is an exponent, or nothing
pub exponent_is : (hex : Bool) (text : List ℕ) → ends_power hex text ≡ true → IsExponent hex (exponent_of text) text
exponent_is hex [] h = refl
exponent_is hex (c ∷ text) h =
    let both = and_parts (is_power hex c) (is_all (after false true (unsigned text))) h in
    (c, sign_of text, unsigned text, both.0, digits_all false (unsigned text) both.1, sign_split text, refl)

-- what may follow the point, as a fraction and an exponent
abbrev Behind : Bool → List ℕ → Type 0
Behind hex text = (digits : List ℕ) × (e : Option (List ℕ)) × (rest : List ℕ) × ((digits ≡ []) ⊎ Digits hex digits) × IsExponent hex e rest × (text ≡ digits ++ rest)

power_behind : (hex : Bool) (text : List ℕ) (o : Option (List ℕ)) → after hex true text ≡ o → power_after hex o ≡ true → Behind hex text
power_behind hex text None a h = absurd (cc)
power_behind hex text (Some rest) a h =
    let s = scanned_digits hex text true rest a in
    (s.0, exponent_of rest, rest, inr s.1, exponent_is hex rest h, s.2)

fraction_behind : (hex : Bool) (text : List ℕ) → ends_fraction hex text ≡ true → Behind hex text
fraction_behind hex text h = elim (or_cases (ends_power hex text) (power_after hex (after hex true text)) h) [
  | inl p ↦ ([], exponent_of text, text, inl refl, exponent_is hex text p, refl)
  | inr p ↦ power_behind hex text (after hex true text) refl p
]

-- a magnitude, as an integer or a float
abbrev IsMagnitudeOf : Bool → Option SignToken → NumberKind → List ℕ → Type 0
IsMagnitudeOf hex sign k text = ((k ≡ Integer (record { sign = sign; hex = hex })) × Digits hex text) ⊎ ((k ≡ Float Normal) × (p : Parts) × IsMagnitude hex p text × (is_float p ≡ true))

float_is : (b : Bool) (k : NumberKind) → float_if b ≡ Some k → (b ≡ true) × (k ≡ Float Normal)
float_is true k h = (refl, cc)
float_is false k h = absurd (cc)

tail_is : (hex : Bool) (sign : Option SignToken) (text ds tail : List ℕ) (k : NumberKind) → Digits hex ds → text ≡ ds ++ tail → kind_after hex sign (Some tail) ≡ Some k → IsMagnitudeOf hex sign k text
tail_is hex sign text ds [] k d split h = inl (cc, subst (Digits hex) (sym (split ∙ append-nil ds)) d)
tail_is hex sign text ds (c ∷ tail) k d split h = elim (cases_Bool (c == 46)) [
  | inl p ↦
      let f = float_is (ends_fraction hex tail) k (rw p at h) in
      let b = fraction_behind hex tail f.0 in
      let parts : Parts = record { integral = ds; fraction = Some b.0; exponent = b.1 } in
      let is : c ∷ tail ≡ (46 ∷ b.0) ++ b.2 = ap (λ (i : ℕ). i ∷ tail) (eqb-true c 46 p) ∙ ap (λ (y : List ℕ). 46 ∷ y) b.5 in
      inr (f.1, parts, record { fraction = 46 ∷ b.0; exponent = b.2; digits = d; is_fraction = (b.3, refl); is_exponent = b.4; split = split ∙ ap (λ y. ds ++ y) is }, refl)
  | inr p ↦
      let f = float_is (ends_power hex (c ∷ tail)) k (rw p at h) in
      let parts : Parts = record { integral = ds; fraction = None; exponent = Some tail } in
      inr (f.1, parts, record { fraction = []; exponent = c ∷ tail; digits = d; is_fraction = refl; is_exponent = exponent_is hex (c ∷ tail) f.0; split = split }, refl)
]

after_is : (hex : Bool) (sign : Option SignToken) (text : List ℕ) (k : NumberKind) (o : Option (List ℕ)) → after hex true text ≡ o → kind_after hex sign o ≡ Some k → IsMagnitudeOf hex sign k text
after_is hex sign text k None a h = absurd (cc)
after_is hex sign text k (Some tail) a h = let s = scanned_digits hex text true tail a in tail_is hex sign text s.0 tail k s.1 s.2 h

unsigned_of : (hex : Bool) (sign : Option SignToken) (k : NumberKind) (text whole : List ℕ) → whole ≡ base_text hex ++ text → IsMagnitudeOf hex sign k text → IsUnsigned sign k whole
unsigned_of hex sign k text whole split (inl i) = subst (λ y. IsUnsigned sign y whole) (sym i.0) (text, i.1, refl, split)
unsigned_of hex sign k text whole split (inr f) = subst (λ y. IsUnsigned sign y whole) (sym f.0) (hex, f.1, text, f.2, f.3, split)

based_is : (sign : Option SignToken) (text : List ℕ) (k : NumberKind) (o : Option (List ℕ)) → prefixed (base_text true) text ≡ o → based sign text o ≡ Some k → IsUnsigned sign k text
based_is sign text k None p h = unsigned_of false sign k text text refl (after_is false sign text k (after false true text) refl h)
based_is sign text k (Some rest) p h = unsigned_of true sign k rest text (prefixed_split (base_text true) text rest p) (after_is true sign rest k (after true true rest) refl h)

nan_is : (b : Bool) (k : NumberKind) → nan_if b ≡ Some k → (b ≡ true) × (k ≡ Float NanVal)
nan_is true k h = (refl, cc)
nan_is false k h = absurd (cc)

payload_is : (sign : Option SignToken) (text : List ℕ) (k : NumberKind) (o : Option (List ℕ)) → prefixed nan_prefix text ≡ o → payload sign text o ≡ Some k → IsUnsigned sign k text
payload_is sign text k None p h = based_is sign text k (prefixed (base_text true) text) refl h
payload_is sign text k (Some rest) p h =
    let n = nan_is (is_all (after true true rest)) k h in
    subst (λ y. IsUnsigned sign y text) (sym n.1) (rest, digits_all true rest n.0, prefixed_split nan_prefix text rest p)

body_is : (sign : Option SignToken) (text : List ℕ) (k : NumberKind) → body sign text ≡ Some k → IsUnsigned sign k text
body_is sign text k h = elim (cases_Bool (is_all (prefixed inf text))) [
  | inl i ↦ (let h' = rw i at h in let same : Float Inf ≡ k = cc in subst (λ y. IsUnsigned sign y text) same (whole inf text i))
  | inr i ↦ elim (cases_Bool (is_all (prefixed nan text))) [
    | inl n ↦ (let h' = rw (i, n) at h in let same : Float Nan ≡ k = cc in subst (λ y. IsUnsigned sign y text) same (whole nan text n))
    | inr n ↦ payload_is sign text k (prefixed nan_prefix text) refl (rw (i, n) at h)
  ]
]

pub scanned_number : (word : List ℕ) (k : NumberKind) → number word ≡ Some k → IsNumber k word
scanned_number word k h = (sign_of word, unsigned word, body_is (sign_of word) (unsigned word) k h, sign_split word)

-- so an answer of the scan is one of the grammar
pub kinds_found : (word : List ℕ) (found : Option NumberKind) → found ≡ number word → (kind : NumberKind) → (found ≡ Some kind) ↔ IsNumber kind word
kinds_found word found e kind = (λ some. scanned_number word kind (sym e ∙ some), λ n. e ∙ number_scanned word kind n)

-- no other byte begins a number
pub not_begun : (word : List ℕ) → begins_number word ≡ false → number word ≡ None
not_begun [] h = refl
not_begun (c ∷ word) h =
    let d : is_digit c ≡ false = grind (arith, nat_tests) in
    let z : (c == 48) ≡ false = grind (arith, nat_tests) in
    let p : (c == 43) ≡ false = grind (arith, nat_tests) in
    let m : (c == 45) ≡ false = grind (arith, nat_tests) in
    let i : (c == 105) ≡ false = grind (arith, nat_tests) in
    let n : (c == 110) ≡ false = grind (arith, nat_tests) in
    rw (number, p, m) (rw (i, n, z) (rw d refl))
