-- The powers of two below 65536 are the numbers below it with one bit set.
use Rattle.std.proofs.Common.{◌≡◌, ℕ, zero, suc, ◌/◌, ◌%◌, ◌^◌, ◌<◌, Bool, true, false, ◌&&◌, ◌||◌, nat_eq, nat_lt, List, [], ◌∷◌, count_ones, refl, sym, ap, ◌∙◌, subst, arith, inl, inr}
use Rattle.std.specs.List.{list_all, list_any}
use Rattle.std.specs.Int.{is_power_of_two}
use lib.Count as count
use lib.Count.{ones_step}
use Rattle.std.proofs.Math.Nat.{pow-suc}
use Rattle.std.proofs.lemmas.Bool.{cases_Bool, cases_eq, and_parts, eqb-true, ltb-true, agree_below_at}
use Rattle.std.proofs.lemmas.Nat.{zero_from_ones, ones_le_self}
use Rattle.wast_meaning.specs.WellFormed.{powers, is_power}

-- POWERS HAVE ONE BIT: what each of a list has, each number has that is in it
has : (test : ℕ → Bool) (n : ℕ) (ns : List ℕ) → list_all test ns ≡ true → list_any (nat_eq n) ns ≡ true → test n ≡ true
has test n [] h e = cc
has test n (m ∷ ms) h e =
    let each = and_parts (test m) (list_all test ms) h in
    elim (cases_Bool (nat_eq n m)) [
      | inl y ↦ subst (λ k. test k ≡ true) (sym (eqb-true n m y)) each.0
      | inr z ↦ has test n ms each.1 (ap (λ b. b || list_any (nat_eq n) ms) (sym z) ∙ e)
    ]

abbrev one_bit : ℕ → Bool
one_bit n = is_power_of_two n && nat_lt n 65536

powers_one_bit : list_all one_bit powers ≡ true
unfolding count.ones
powers_one_bit = refl

-- A NUMBER WITH ONE BIT is a power of two
pub record IsPowerBelow (d n : ℕ) : Type 0 where
  pub exponent : ℕ
  pub small : exponent < d
  pub is : n ≡ 2 ^ exponent

exponent_of : (d n : ℕ) → n < 2 ^ d → count_ones n ≡ 1 → IsPowerBelow d n
exponent_of zero n h e = absurd (omega (arith, ones_le_self n))
exponent_of (suc d) n h e = elim (cases_eq (n % 2) 1) [
  | inl odd ↦
      let half : n / 2 ≡ 0 = zero_from_ones (n / 2) (omega (arith, ones_step n)) in
      record { exponent = 0; small = omega arith; is = omega arith }
  | inr even ↦
      let rest = exponent_of d (n / 2) (omega (arith, pow-suc 2 d)) (omega (arith, ones_step n)) in
      record { exponent = suc rest.exponent; small = omega (arith, rest.small); is = omega (arith, rest.is, pow-suc 2 rest.exponent) }
]

power_listed : (k : ℕ) → k < 16 → is_power (2 ^ k) ≡ true
power_listed k h = agree_below_at (λ k. is_power (2 ^ k)) (λ k. true) 16 k refl h

listed : (n : ℕ) → one_bit n ≡ true → is_power n ≡ true
listed n e =
    let h = and_parts (is_power_of_two n) (nat_lt n 65536) e in
    let p = exponent_of 16 n (ltb-true n 65536 h.1) (eqb-true _ 1 h.0) in
    subst (λ k. is_power k ≡ true) (sym p.is) (power_listed p.exponent p.small)

same_test : (a b : Bool) → (a ≡ true → b ≡ true) → (b ≡ true → a ≡ true) → a ≡ b
same_test true b f g = sym (f refl)
same_test false true f g = g refl
same_test false false f g = refl

pub power_is : (n : ℕ) → (is_power_of_two n && nat_lt n 65536) ≡ is_power n
power_is n = same_test (one_bit n) (is_power n) (listed n) (λ e. has one_bit n powers powers_one_bit e)
