-- Hints, one after the other.
use Rattle.std.proofs.Common.{◌≡◌, ℕ, ◌+◌, Bool, true, false, List, [], ◌∷◌, map, refl, sym, ◌∙◌, ap, arith, inl, inr}
use Rattle.std.specs.Prelude.{◌&&◌, not, nat_lt}
use Rattle.std.specs.List.{list_all}
use Rattle.std.proofs.lemmas.Bool.{cases_Bool, ltb-true, ltb-false, lt-ltb, le-ltb}
use Rattle.wast_expressions.specs.Items.{Hint}
use Rattle.wast_meaning.specs.WellFormed.{is_rising, are_hints}

-- hints rise from an index on, each stands on one of so many instructions, and their values are below 128
abbrev pub are_hints_from : ℕ → ℕ → List Hint → Bool
are_hints_from next len [] = true
are_hints_from next len (h ∷ hs) = not (nat_lt h.index next) && nat_lt h.index len && nat_lt h.value 128 && are_hints_from (h.index + 1) len hs

abbrev first_from : ℕ → List Hint → Bool
first_from next [] = true
first_from next (h ∷ hs) = not (nat_lt h.index next)

behind : (n k : ℕ) → not (nat_lt k (n + 1)) ≡ nat_lt n k
behind n k = elim (cases_Bool (nat_lt n k)) [
  | inl y ↦ (let below = ltb-true n k y in ap not (le-ltb k (n + 1) (omega (arith, below))) ∙ sym y)
  | inr z ↦ (let above = ltb-false n k z in ap not (lt-ltb k (n + 1) (omega (arith, above))) ∙ sym z)
]

regrouped : (first inside small next rising fit : Bool) → (first && inside && small && (next && (rising && fit))) ≡ (first && ((next && rising) && ((inside && small) && fit)))
regrouped false inside small next rising fit = refl
regrouped true true true true rising fit = refl
regrouped true true true false rising fit = refl
regrouped true true false true true fit = refl
regrouped true true false true false fit = refl
regrouped true true false false rising fit = refl
regrouped true false small true true fit = refl
regrouped true false small true false fit = refl
regrouped true false small false rising fit = refl

split : (next len : ℕ) (hs : List Hint) → are_hints_from next len hs ≡ (first_from next hs && are_hints len hs)
split next len [] = refl
split next len (h ∷ []) = regrouped (not (nat_lt h.index next)) (nat_lt h.index len) (nat_lt h.value 128) true true true
split next len (h ∷ k ∷ hs) =
    let first = not (nat_lt h.index next) in
    let inside = nat_lt h.index len in
    let small = nat_lt h.value 128 in
    let rising = is_rising (map (λ (j : Hint). j.index) (k ∷ hs)) in
    let fit = list_all (λ (j : Hint). nat_lt j.index len && nat_lt j.value 128) (k ∷ hs) in
    ap (λ rest. first && inside && small && rest) (split (h.index + 1) len (k ∷ hs) ∙ ap (λ next_one. next_one && (rising && fit)) (behind h.index k.index))
    ∙ regrouped first inside small (nat_lt h.index k.index) rising fit

from_zero : (hs : List Hint) → first_from 0 hs ≡ true
from_zero [] = refl
from_zero (h ∷ hs) = ap not (le-ltb h.index 0 (omega arith))

pub hints_same : (len : ℕ) (hs : List Hint) → are_hints_from 0 len hs ≡ are_hints len hs
hints_same len hs = split 0 len hs ∙ ap (λ b. b && are_hints len hs) (from_zero hs)
