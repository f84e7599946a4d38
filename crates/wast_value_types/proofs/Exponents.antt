-- Powers of two below a bound.
use Rattle.std.proofs.Common.{◌≡◌, ◌≢◌, ℕ, zero, suc, ◌<◌, ◌≤◌, ◌*◌, ◌^◌, Some, None, refl, sym, ◌∙◌, ap, cond, inl, inr, arith, nat_lt}
use Rattle.std.proofs.lemmas.Bool.{cases_Bool, eqb-true, eqb-false, ltb-true, ltb-false}
use Rattle.std.proofs.Math.Pow.{pow-lt, pow_mono}
use Rattle.std.specs.Prelude.{◌==◌}
use Rattle.wast_value_types.specs.ValueSyntax.{exponent_below, exponent}

same_power : (i j : ℕ) → 2 ^ i ≡ 2 ^ j → i ≡ j
same_power i j e = elim (cases_Bool (nat_lt i j)) [
  | inl y ↦ (let l = pow-lt (ltb-true i j y) in let no : ⊥ = omega (arith, e, l) in absurd no)
  | inr n ↦ elim (cases_Bool (nat_lt j i)) [
    | inl y ↦ (let l = pow-lt (ltb-true j i y) in let no : ⊥ = omega (arith, e, l) in absurd no)
    | inr m ↦ (let a = ltb-false i j n in let b = ltb-false j i m in omega (arith, a, b))
  ]
]

below : (m n r : ℕ) → r < m → n ≡ 2 ^ r → exponent_below m n ≡ Some r
below zero n r h e = (let no : ⊥ = omega (arith, h) in absurd no)
below (suc k) n r h e = elim (cases_Bool (n == 2 ^ k)) [
  | inl y ↦ ap (λ b. cond b (Some k) (exponent_below k n)) y ∙ ap Some (same_power k r (sym (eqb-true n (2 ^ k) y) ∙ e))
  | inr x ↦ (
      let apart : r ≢ k = λ s. eqb-false n (2 ^ k) x (e ∙ ap (λ z. 2 ^ z) s) in
      ap (λ b. cond b (Some k) (exponent_below k n)) x ∙ below k n r (omega (arith, h, apart)) e)
]

none_below : (m n : ℕ) → ((k : ℕ) → n ≢ 2 ^ k) → exponent_below m n ≡ None
none_below zero n f = refl
none_below (suc k) n f = elim (cases_Bool (n == 2 ^ k)) [
  | inl y ↦ absurd (f k (eqb-true n (2 ^ k) y))
  | inr x ↦ ap (λ b. cond b (Some k) (exponent_below k n)) x ∙ none_below k n f
]

pub exponent_is : (n r : ℕ) → r < 32 → n ≡ 2 ^ r → exponent n ≡ Some r
unfolding exponent
exponent_is n r h e = below 32 n r h e

pub no_exponent : (n : ℕ) → ((k : ℕ) → n ≢ 2 ^ k) → exponent n ≡ None
unfolding exponent
no_exponent n f = none_below 32 n f

-- between two powers is none
pub between : (n r k : ℕ) → 2 ^ r ≤ n → n < 2 * 2 ^ r → n ≢ 2 ^ r → n ≢ 2 ^ k
between n r k low high other e = elim (cases_Bool (nat_lt k r)) [
  | inl y ↦ (let l = pow-lt (ltb-true k r y) in let no : ⊥ = omega (arith, l, low, e) in absurd no)
  | inr x ↦ elim (cases_Bool (nat_lt r k)) [
    | inl y ↦ (let l = pow_mono {i = suc r} {j = k} (ltb-true r k y) in let no : ⊥ = omega (arith, l, high, e) in absurd no)
    | inr z ↦ (let a = ltb-false k r x in let b = ltb-false r k z in let same : k ≡ r = omega (arith, a, b) in other (e ∙ ap (λ v. 2 ^ v) same))
  ]
]
