-- What the readers of numbers rest on.
use Rattle.std.proofs.Common.{◌≡◌, ℕ, ◌-◌, ◌≤◌, Bool, true, false, inl, inr, List, [], ◌∷◌, ◌++◌, Option, Some, None, length, take, drop, get_or, refl, sym, ◌∙◌, ap, subst, arith, length-append}
use Rattle.std.specs.Prelude.{slice_range}
use Rattle.std.specs.List.{list_all}
use Rattle.std.proofs.Math.Seq.{take-append_seam, drop-append_seam}
use Rattle.std.proofs.lemmas.Bool.{cases_Bool, and_parts, eqb-true}
use Rattle.std.proofs.lemmas.Bool.Decides.{nat_tests}
use Rattle.wast_lexer_numbers.specs.declared.kind.SignToken.{SignToken}
use Rattle.wast_lexer_numbers.specs.declared.kind.FloatKind.TheVariants.{Normal}
use Rattle.wast_lexer_numbers.specs.declared.kind.NumberKind.{NumberKind}
use Rattle.wast_lexer_numbers.specs.declared.kind.NumberKind.TheVariants.{Float}
use Rattle.wast_lexer_numbers.specs.Numbers.{Digits, IsNumber, inf, nan, nan_prefix, sign_text, base_text}
use Rattle.wast_lexer_numbers.specs.FloatSteps.{is_point_first, is_ascii}
use Rattle.wast_lexer_numbers.specs.NumberScan.{after, prefixed, sign_of, unsigned, is_all, ends_power, ends_fraction, float_if, magnitude, nan_if, based, payload, body}
use Rattle.std.specs.Str.{IsUtf8, IsCharBoundary}
use Rattle.std.proofs.lemmas.Str.{IsCharBoundary-after_ascii}
use Rattle.wast_lexer_numbers.proofs.NumberLaws.{number_scanned, sign_split, prefixed_split}
use Rattle.wast_lexer_numbers.proofs.DigitLaws.{scanned_digits}
use Rattle.wast_lexer_numbers.proofs.ByteLaws.{is_number_byte, number_bytes, all_more}

pub all_behind : (p : ℕ → Bool) (a b : List ℕ) → list_all p (a ++ b) ≡ true → list_all p b ≡ true
all_behind p [] b h = h
all_behind p (c ∷ a) b h = all_behind p a b (and_parts (p c) (list_all p (a ++ b)) h).1

-- the digits in front, by the length of what follows them
pub record Cut (hex : Bool) (text rest : List ℕ) : Type 0 where
  pub short : length rest ≤ length text
  pub digits : Digits hex (take (length text - length rest) text)
  pub behind : drop (length text - length rest) text ≡ rest
  pub split : text ≡ take (length text - length rest) text ++ rest

pub digits_cut : (hex : Bool) (text rest : List ℕ) → after hex true text ≡ Some rest → Cut hex text rest
digits_cut hex text rest h =
    let s = scanned_digits hex text true rest h in
    let n : length text - length rest ≡ length s.0 = omega (arith, ap length s.2, length-append s.0 rest) in
    let front : take (length text - length rest) text ≡ s.0 = ap (λ k. take k text) n ∙ ap (take (length s.0)) s.2 ∙ take-append_seam s.0 rest in
    let back : drop (length text - length rest) text ≡ rest = ap (λ k. drop k text) n ∙ ap (drop (length s.0)) s.2 ∙ drop-append_seam s.0 rest in
    record {
      short = omega (arith, ap length s.2, length-append s.0 rest);
      digits = subst (Digits hex) (sym front) s.1;
      behind = back;
      split = s.2 ∙ ap (λ y. y ++ rest) (sym front);
    }

-- the first part of a text
pub front_is : (text : List ℕ) (n : ℕ) → slice_range text 0 n ≡ take n text
front_is text n = ap (λ k. take k text) (omega arith)

-- ---- what is left behind the digits
pub fraction_tail : (hex : Bool) (text rest : List ℕ) → ends_fraction hex text ≡ true → ends_power hex text ≡ false → after hex true text ≡ Some rest → ends_power hex rest ≡ true
fraction_tail hex text rest h isnt a = let h' = rw (isnt, a) at h in h'

float_is : (b : Bool) → float_if b ≡ Some (Float Normal) → b ≡ true
float_is true h = refl
float_is false h = absurd (cc)

pub point_first : (text : List ℕ) → is_point_first text ≡ true → text ≡ 46 ∷ drop 1 text
point_first [] h = absurd (cc)
point_first (c ∷ text) h = ap (λ (i : ℕ). i ∷ text) (eqb-true c 46 h)

pub value_fraction : (hex : Bool) (sign : Option SignToken) (text rest : List ℕ) → magnitude hex sign text ≡ Some (Float Normal) → after hex true text ≡ Some rest → is_point_first rest ≡ true → ends_fraction hex (drop 1 rest) ≡ true
value_fraction hex sign text rest h a p =
    let e : after hex true text ≡ Some (46 ∷ drop 1 rest) = a ∙ ap (λ (y : List ℕ). let o : Option (List ℕ) = Some y in o) (point_first rest p) in
    float_is (ends_fraction hex (drop 1 rest)) (rw e at h)

pub value_exponent : (hex : Bool) (sign : Option SignToken) (text rest : List ℕ) → magnitude hex sign text ≡ Some (Float Normal) → after hex true text ≡ Some rest → is_point_first rest ≡ false → ends_power hex rest ≡ true
value_exponent hex sign text [] h a p = let h' = rw a at h in absurd (cc)
value_exponent hex sign text (c ∷ rest) h a p = let h' = rw (a, p) at h in float_is (ends_power hex (c ∷ rest)) h'

-- ---- a float with digits
pub normal_based : (sign : Option SignToken) (text : List ℕ) → body sign text ≡ Some (Float Normal) → based sign text (prefixed (base_text true) text) ≡ Some (Float Normal)
normal_based sign text h = elim (cases_Bool (is_all (prefixed inf text))) [
  | inl i ↦ (let h' = rw i at h in absurd (cc))
  | inr i ↦ elim (cases_Bool (is_all (prefixed nan text))) [
    | inl n ↦ (let h' = rw (i, n) at h in absurd (cc))
    | inr n ↦ payload_is (prefixed nan_prefix text) (rw (i, n) at h)
  ]
]
  where
    nan_isnt : (b : Bool) → nan_if b ≡ Some (Float Normal) → ⊥
    nan_isnt true h = cc
    nan_isnt false h = cc

    payload_is : (o : Option (List ℕ)) → payload sign text o ≡ Some (Float Normal) → based sign text (prefixed (base_text true) text) ≡ Some (Float Normal)
    payload_is None h = h
    payload_is (Some rest) h = absurd (nan_isnt (is_all (after true true rest)) h)

-- ---- ASCII
pub number_ascii : (k : NumberKind) (w : List ℕ) → IsNumber k w → list_all is_ascii w ≡ true
number_ascii k w num = all_more is_number_byte is_ascii ascii w (number_bytes k w num)
  where
    ascii : (c : ℕ) → is_number_byte c ≡ true → is_ascii c ≡ true
    ascii c h = grind (arith, nat_tests)

-- a number behind its sign
pub record Body (k : NumberKind) (word : List ℕ) : Type 0 where
  pub behind : drop (length word - length (unsigned word)) word ≡ unsigned word
  pub ascii : list_all is_ascii (unsigned word) ≡ true
  pub scanned : body (sign_of word) (unsigned word) ≡ Some k
  pub split : word ≡ sign_text (sign_of word) ++ unsigned word

pub body_of : (k : NumberKind) (word : List ℕ) → IsNumber k word → Body k word
body_of k word num =
    let split = sign_split word in
    let n : length word - length (unsigned word) ≡ length (sign_text (sign_of word)) = omega (arith, ap length split, length-append (sign_text (sign_of word)) (unsigned word)) in
    record {
      behind = ap (λ i. drop i word) n ∙ ap (drop (length (sign_text (sign_of word)))) split ∙ drop-append_seam (sign_text (sign_of word)) (unsigned word);
      ascii = all_behind is_ascii (sign_text (sign_of word)) (unsigned word) (ap (list_all is_ascii) (sym split) ∙ number_ascii k word num);
      scanned = number_scanned word k num;
      split = split;
    }

-- `0x` in front
pub record Based (text rest : List ℕ) : Type 0 where
  pub split : text ≡ base_text true ++ rest
  pub behind : drop 2 text ≡ rest
  pub cut : IsCharBoundary text 2

pub based_of : (text rest : List ℕ) → IsUtf8 text → prefixed (48 ∷ 120 ∷ []) text ≡ Some rest → Based text rest
based_of text rest utf8 h =
    let split = prefixed_split (48 ∷ 120 ∷ []) text rest h in
    record {
      split = split;
      behind = ap (drop 2) split;
      cut = IsCharBoundary-after_ascii text 1 utf8 (omega (arith, ap length split)) (omega (arith, ap (λ y. get_or y 1 0) split));
    }
