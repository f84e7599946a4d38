-- Digits, one after the other.
use Rattle.std.proofs.Common.{◌≡◌, ◌≢◌, ℕ, Bool, true, false, List, [], ◌∷◌, refl, sym, ◌∙◌, ap, cond, inl, inr}
use Rattle.std.specs.Prelude.{◌==◌, Some, codes}
use Rattle.std.proofs.lemmas.Bool.{cases_Bool, eqb-true, eq-eqb}
use Rattle.wast_vector_operands.specs.Numbers.{is_base}
use Rattle.wast_vector_operands.specs.Spelling.{after}
use Rattle.wast_operands.specs.OperandSyntax.{are_digits, digits_number, u64_number}

-- what is left of digits, behind a digit or not
abbrev pub may_end : Bool → Bool → List ℕ → Bool
may_end hex false text = are_digits hex text
may_end hex true [] = true
may_end hex true (c ∷ text) = cond (c == 95) (are_digits hex text) (are_digits hex (c ∷ text))

-- `_` is no digit
line : (hex : Bool) (c : ℕ) → is_base hex c ≡ true → (c == 95) ≡ false
line hex c h = elim (cases_Bool (c == 95)) [
  | inl y ↦ (let q : is_base hex 95 ≡ true = ap (is_base hex) (sym (eqb-true c 95 y)) ∙ h in absurd (none hex q))
  | inr n ↦ n
]
  where
    none : (hex : Bool) → is_base hex 95 ≡ true → ⊥
    none true q = cc
    none false q = cc

one_digit : (hex : Bool) (c : ℕ) (text : List ℕ) → is_base hex c ≡ true → are_digits hex (c ∷ text) ≡ may_end hex true text
one_digit hex c [] h = h
one_digit hex c (d ∷ text) h = rw h refl

no_digit : (hex : Bool) (c : ℕ) (text : List ℕ) → is_base hex c ≡ false → are_digits hex (c ∷ text) ≡ false
no_digit hex c [] h = h
no_digit hex c (d ∷ text) h = rw h refl

pub digit : (hex b : Bool) (c : ℕ) (text : List ℕ) → is_base hex c ≡ true → may_end hex b (c ∷ text) ≡ may_end hex true text
digit hex false c text h = one_digit hex c text h
digit hex true c text h = ap (λ v. cond v (are_digits hex text) (are_digits hex (c ∷ text))) (line hex c h) ∙ one_digit hex c text h

pub gap : (hex b : Bool) (c : ℕ) (text : List ℕ) → b ≡ true → c ≡ 95 → may_end hex b (c ∷ text) ≡ may_end hex false text
gap hex false c text b e = absurd cc
gap hex true c text b e = ap (λ v. cond v (are_digits hex text) (are_digits hex (c ∷ text))) (eq-eqb c 95 e)

pub neither : (hex b : Bool) (c : ℕ) (text : List ℕ) → is_base hex c ≡ false → (b ≡ true → c ≢ 95) → may_end hex b (c ∷ text) ≡ false
neither hex false c text h n = no_digit hex c text h
neither hex true c text h n = elim (cases_Bool (c == 95)) [
  | inl y ↦ absurd (n refl (eqb-true c 95 y))
  | inr z ↦ ap (λ v. cond v (are_digits hex text) (are_digits hex (c ∷ text))) z ∙ no_digit hex c text h
]

-- behind `0x`
pub behind_base : (text digits : List ℕ) → after (codes "0x") text ≡ Some digits → digits_number true digits ≡ u64_number text
behind_base text digits h = rw h refl
