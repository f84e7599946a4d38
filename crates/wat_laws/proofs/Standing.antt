-- How many tokens stand at a place.
use Rattle.std.proofs.Common.{ℕ, zero, suc, inl, inr, ◌⊎◌, ◌∙◌, ◌≡◌, ◌<◌, ◌≤◌, ◌+◌, List, [], ◌∷◌, ◌++◌, Option, Some, None, refl, sym, ap, subst, arith}
use Rattle.wast_grammar.specs.Tokens.{SignificantToken}
use Rattle.wast_grammar.specs.Significant.{TextToken}
use Rattle.wast_grammar.specs.Alike.{Fits, Matched, place_of, both_places, places}
use Rattle.wat_verdict.proofs.Placed.{RisesFrom}

-- one for the same number, else none
abbrev pub hit : ℕ → ℕ → ℕ
hit zero zero = 1
hit zero (suc q) = 0
hit (suc p) zero = 0
hit (suc p) (suc q) = hit p q

abbrev pub at_place : ℕ → Option ℕ → ℕ
at_place p None = 0
at_place p (Some q) = hit p q

abbrev pub standing : {N : Type 0} → ℕ → List (SignificantToken N ℕ) → ℕ
standing p [] = 0
standing p (t ∷ ts) = at_place p (place_of t) + standing p ts

pub standing_both : {N : Type 0} (p : ℕ) (ts us : List (SignificantToken N ℕ)) → standing p (ts ++ us) ≡ standing p ts + standing p us
standing_both p [] us = omega arith
standing_both p (t ∷ ts) us = let h = standing_both p ts us in omega (arith, h)

hit_itself : (p : ℕ) → hit p p ≡ 1
hit_itself zero = refl
hit_itself (suc p) = hit_itself p

hit_or : (p q : ℕ) → (hit p q ≡ 0) ⊎ (p ≡ q)
hit_or zero zero = inr refl
hit_or zero (suc q) = inl refl
hit_or (suc p) zero = inl refl
hit_or (suc p) (suc q) = elim (hit_or p q) [ inl e ↦ inl e | inr e ↦ inr (ap suc e) ]

hit_later : (p q : ℕ) → p < q → hit p q ≡ 0
hit_later zero zero h = absurd (omega (arith, h))
hit_later zero (suc q) h = refl
hit_later (suc p) zero h = absurd (omega (arith, h))
hit_later (suc p) (suc q) h = hit_later p q (omega (arith, h))

-- WHERE PLACES RISE no two tokens stand at one
module _ (p : ℕ) where
  none_before : (from : ℕ) (ts : List TextToken) → RisesFrom from ts → p < from → standing p ts ≡ 0
  none_before from [] r l = refl
  none_before from (t ∷ ts) r l =
      let h = r.2 in
      let first = ap (at_place p) r.1 in
      let away = hit_later p r.0 (omega (arith, h, l)) in
      let rest = none_before (suc r.0) ts r.3 (omega (arith, h, l)) in
      omega (arith, first, away, rest)

  pub at_most_once : (from : ℕ) (ts : List TextToken) → RisesFrom from ts → standing p ts ≤ 1
  at_most_once from [] r = omega arith
  at_most_once from (t ∷ ts) r =
      let first = ap (at_place p) r.1 in
      elim (hit_or p r.0) [
        | inl away ↦ (let rest = at_most_once (suc r.0) ts r.3 in omega (arith, first, away, rest))
        | inr here ↦ (
            let one = ap (hit p) (sym here) ∙ hit_itself p in
            let rest = none_before (suc r.0) ts r.3 (omega (arith, here)) in
            omega (arith, first, one, rest))
      ]

-- PLACES of tokens of which no two stand at one, and places that rise: side by side, two of the first are equal exactly where the second are
one_place : (p q : ℕ) → hit p q ≤ 0 → p ≡ q → ⊥
one_place p q none e = let one = ap (hit p) (sym e) ∙ hit_itself p in omega (arith, none, one)

fits_one : (p q r : ℕ) (o : Option ℕ) (rest : List (ℕ × ℕ)) → at_place p o ≤ 0 → q < r → Fits (p, q) rest → Fits (p, q) (both_places o (Some r) rest)
fits_one p q r None rest none l f = f
fits_one p q r (Some s) rest none l f = ((λ e. absurd (one_place p s none e), λ e. absurd (let same : r < r = subst (λ z. z < r) e l in omega (arith, same))), f)

fits_all : {N : Type 0} (p q from : ℕ) (vs : List (SignificantToken N ℕ)) (us : List TextToken) → standing p vs ≤ 0 → q < from → RisesFrom from us → Fits (p, q) (places vs us)
fits_all p q from [] us none l r = tt
fits_all p q from (v ∷ vs) [] none l r = tt
fits_all p q from (v ∷ vs) (u ∷ us) none l r =
    let later = r.2 in
    rw r.1 (fits_one p q r.0 (place_of v) (places vs us) (omega (arith, none)) (omega (arith, later, l)) (fits_all p q (suc r.0) vs us (omega (arith, none)) (omega (arith, later, l)) r.3))

matched_one : (r : ℕ) (o : Option ℕ) (rest : List (ℕ × ℕ)) → ((p : ℕ) → o ≡ Some p → Fits (p, r) rest) → Matched rest → Matched (both_places o (Some r) rest)
matched_one r None rest fits m = m
matched_one r (Some p) rest fits m = (fits p refl, m)

pub matched_places : {N : Type 0} (from : ℕ) (vs : List (SignificantToken N ℕ)) (us : List TextToken) → ((p : ℕ) → standing p vs ≤ 1) → RisesFrom from us → Matched (places vs us)
matched_places from [] us once r = tt
matched_places from (v ∷ vs) [] once r = tt
matched_places from (v ∷ vs) (u ∷ us) once r =
    rw r.1 (matched_one r.0 (place_of v) (places vs us)
    (λ p e. (let all = once p in let first = ap (at_place p) e ∙ hit_itself p in fits_all p r.0 (suc r.0) vs us (omega (arith, all, first)) (omega arith) r.3))
    (matched_places (suc r.0) vs us (λ p. (let all = once p in omega (arith, all))) r.3))
