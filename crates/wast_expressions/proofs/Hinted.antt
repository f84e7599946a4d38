-- Instructions with their hints, and the hints by their indices.
use Rattle.std.proofs.Common.{◌≡◌, ℕ, suc, ◌+◌, List, [], ◌∷◌, ◌++◌, length, map, Option, Some, None, inl, inr, refl, sym, ◌∙◌, ap, arith, append_assoc, append-nil, nat_eq}
use Rattle.std.proofs.lemmas.Bool.{cases_Bool, eqb-true, eq-eqb}
use Rattle.std.proofs.lemmas.List.{map-append}
use Rattle.wast_expressions.specs.Items.{Hint, hint_at, hints_from, Expression, expression_of}
use Rattle.wast_expressions.specs.Laws.{RisesFrom, HintsRise}
use Rattle.wast_expressions.specs.Partial.{hint_tree, hinted_from, hinted}
use Rattle.wast_expressions.specs.declared.hint.BranchHint.{BranchHint}

lower : (n : ℕ) (xs : List ℕ) → RisesFrom (suc n) xs → RisesFrom n xs
lower n [] r = r
lower n (x ∷ xs) r = let l = r.0 in (omega (arith, l), r.1)

pub hints_rise : (I : Type 0) → HintsRise I
hints_rise I n [] = tt
hints_rise I n ((None, i) ∷ xs) = lower n (map (λ h. h.index) (hints_from (suc n) xs)) (hints_rise I (suc n) xs)
hints_rise I n ((Some v, i) ∷ xs) = (omega arith, hints_rise I (suc n) xs)

module _ {I : Type 0} where
  -- an instruction without a hint
  skip : (n : ℕ) (i : I) (is : List I) (hs : List Hint) → RisesFrom (suc n) (map (λ h. h.index) hs) → hinted_from n (i ∷ is) hs ≡ (None, i) ∷ hinted_from (suc n) is hs
  skip n i is [] r = refl
  skip n i is (h ∷ hs) r = elim (cases_Bool (nat_eq h.index n)) [
    | inl y ↦ (let e = eqb-true h.index n y in let l = r.0 in let no : ⊥ = omega (arith, e, l) in absurd no)
    | inr z ↦ rw z refl
  ]

  hinted_back : (n : ℕ) (xs : List (Option ℕ × I)) → hinted_from n (map (λ x. x.1) xs) (hints_from n xs) ≡ xs
  hinted_back n [] = refl
  hinted_back n ((None, i) ∷ xs) = skip n i (map (λ x. x.1) xs) (hints_from (suc n) xs) (hints_rise I (suc n) xs) ∙ ap (λ z. (None, i) ∷ z) (hinted_back (suc n) xs)
  hinted_back n ((Some v, i) ∷ xs) = rw (eq-eqb n n refl) (ap (λ z. (Some v, i) ∷ z) (hinted_back (suc n) xs))

  hints_append : (n : ℕ) (xs : List (Option ℕ × I)) (h : Option ℕ) (i : I) → hints_from n (xs ++ (h, i) ∷ []) ≡ hints_from n xs ++ hint_at (n + length xs) h
  hints_append n [] h i = append-nil (hint_at n h) ∙ ap (λ k. hint_at k h) (omega arith)
  hints_append n (x ∷ xs) h i =
      ap (λ z. hint_at n x.0 ++ z) (hints_append (suc n) xs h i ∙ ap (λ k. hints_from (suc n) xs ++ hint_at k h) (omega arith))
      ∙ sym (append_assoc (hint_at n x.0) (hints_from (suc n) xs) (hint_at (n + suc (length xs)) h))

  length_map : (xs : List (Option ℕ × I)) → length (map (λ x. x.1) xs) ≡ length xs
  length_map [] = refl
  length_map (x ∷ xs) = ap suc (length_map xs)

  count : (xs : List (Option ℕ × I)) → 0 + length xs ≡ length xs
  count xs = omega arith

  abbrev with : List I → List Hint → Expression I
  with is hs = record { instrs = is; hints = hs }

  -- one more instruction
  more : (is : List I) (hs : List Hint) (h : Option ℕ) (i : I) → expression_of (hinted (with is hs)) ≡ with is hs → expression_of (hinted (with is hs) ++ (h, i) ∷ []) ≡ with (is ++ i ∷ []) (hs ++ hint_at (length is) h)
  more is hs h i e =
      let out = hinted (with is hs) in
      let a : map (λ x. x.1) out ≡ is = ap (λ z. z.instrs) e in
      let b : hints_from 0 out ≡ hs = ap (λ z. z.hints) e in
      let l : length out ≡ length is = sym (length_map out) ∙ ap length a in
      ap (λ z. with z (hints_from 0 (out ++ (h, i) ∷ []))) (map-append (λ x. x.1) out ((h, i) ∷ []) ∙ ap (λ z. z ++ i ∷ []) a)
      ∙ ap (λ z. with (is ++ i ∷ []) z) (hints_append 0 out h i ∙ ap (λ z. z ++ hint_at (0 + length out) h) b ∙ ap (λ k. hs ++ hint_at k h) (count out ∙ l))

  pub pushed : (is js : List I) (hs gs : List Hint) (h : Option ℕ) (i : I) → js ≡ is ++ i ∷ [] → gs ≡ hs ++ hint_at (length is) h → expression_of (hinted (with is hs)) ≡ with is hs → hinted (with js gs) ≡ hinted (with is hs) ++ (h, i) ∷ []
  pushed is js hs gs h i p q e = ap (λ z. hinted (with z gs)) p ∙ ap (λ z. hinted (with (is ++ i ∷ []) z)) q ∙ ap hinted (sym (more is hs h i e)) ∙ hinted_back 0 (hinted (with is hs) ++ (h, i) ∷ [])

  pub held : (is js : List I) (hs gs : List Hint) (h : Option ℕ) (i : I) → js ≡ is ++ i ∷ [] → gs ≡ hs ++ hint_at (length is) h → expression_of (hinted (with is hs)) ≡ with is hs → expression_of (hinted (with js gs)) ≡ with js gs
  held is js hs gs h i p q e = ap expression_of (pushed is js hs gs h i p q e) ∙ more is hs h i e ∙ ap (λ z. with z (hs ++ hint_at (length is) h)) (sym p) ∙ ap (λ z. with js z) (sym q)

-- one more hint
pub hint_more : (hs gs : List BranchHint) (n k v : ℕ) (h : Option ℕ) → gs ≡ hs ++ record { instr_index = k; value = v } ∷ [] → k ≡ n → h ≡ Some v → map hint_tree gs ≡ map hint_tree hs ++ hint_at n h
hint_more hs gs n k v h e i o = ap (map hint_tree) e ∙ map-append hint_tree hs (record { instr_index = k; value = v } ∷ []) ∙ ap (λ z. map hint_tree hs ++ record { index = z; value = v } ∷ []) i ∙ ap (λ z. map hint_tree hs ++ hint_at n z) (sym o)
