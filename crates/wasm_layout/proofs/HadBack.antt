-- What stands there of each kind is had back from all that stands there, in the order of the kinds.
use Rattle.std.proofs.Common.{ℕ, ◌≡◌, Bool, true, false, cond, nat_eq, List, [], ◌∷◌, ◌++◌, filter, refl, sym, ap, ◌∙◌, flat_map, append-nil, eq-eqb}
use Rattle.std.proofs.lemmas.Bool.{eqb-true}
use Rattle.std.proofs.lemmas.List.Elements.{filter-append}
use Rattle.std.specs.List.{AllByRecursion}

pub true_is_not_false : {Z : Type 0} → true ≡ false → Z
true_is_not_false h = absurd cc

module _ {A : Type 0} (kind : A → ℕ) where
  abbrev is_of : ℕ → A → Bool
  is_of n x = nat_eq (kind x) n

  abbrev pub AreOf : ℕ → List A → Type 0
  AreOf n xs = AllByRecursion (λ x. kind x ≡ n) xs

  all_kept : (n : ℕ) (xs : List A) → AreOf n xs → filter (is_of n) xs ≡ xs
  all_kept n [] h = refl
  all_kept n (x ∷ xs) h = ap (λ b. cond b (x ∷ filter (is_of n) xs) (filter (is_of n) xs)) (eq-eqb (kind x) n h.0) ∙ ap (λ v. x ∷ v) (all_kept n xs h.1)

  none_kept : (m n : ℕ) (xs : List A) → AreOf m xs → nat_eq m n ≡ false → filter (is_of n) xs ≡ []
  none_kept m n [] h d = refl
  none_kept m n (x ∷ xs) h d =
      ap (λ b. cond b (x ∷ filter (is_of n) xs) (filter (is_of n) xs)) (ap (λ k. nat_eq k n) h.0 ∙ d) ∙ none_kept m n xs h.1 d

-- no kind has the number; one kind has it
module _ {K : Type 0} (code : K → ℕ) where
  abbrev pub none : ℕ → List K → Bool
  none n [] = true
  none n (k ∷ ks) = cond (nat_eq (code k) n) false (none n ks)

  abbrev pub once : ℕ → List K → Bool
  once n [] = false
  once n (k ∷ ks) = cond (nat_eq (code k) n) (none n ks) (once n ks)

module _ {K A : Type 0} (kind : A → ℕ) (code : K → ℕ) where
  module _ (f : K → List A) (is_kind : (k : K) → AreOf kind (code k) (f k)) where
    nothing : (n : ℕ) (ks : List K) → none code n ks ≡ true → filter (is_of kind n) (flat_map f ks) ≡ []
    nothing n [] h = refl
    nothing n (k ∷ ks) h = by (nat_eq (code k) n) refl h (nothing n ks)
      where
        by : (b : Bool) → nat_eq (code k) n ≡ b → cond b false (none code n ks) ≡ true → (none code n ks ≡ true → filter (is_of kind n) (flat_map f ks) ≡ []) → filter (is_of kind n) (f k ++ flat_map f ks) ≡ []
        by true e g rest = true_is_not_false (sym g)
        by false e g rest =
            filter-append (is_of kind n) (f k) (flat_map f ks)
            ∙ ap (λ v. v ++ filter (is_of kind n) (flat_map f ks)) (none_kept kind (code k) n (f k) (is_kind k) e)
            ∙ rest g

    that : ((j k : K) → code j ≡ code k → j ≡ k) → (k : K) (ks : List K) → once code (code k) ks ≡ true → filter (is_of kind (code k)) (flat_map f ks) ≡ f k
    that same k [] h = true_is_not_false (sym h)
    that same k (j ∷ js) h = by (nat_eq (code j) (code k)) refl h (that same k js)
      where
        by : (b : Bool) → nat_eq (code j) (code k) ≡ b → cond b (none code (code k) js) (once code (code k) js) ≡ true → (once code (code k) js ≡ true → filter (is_of kind (code k)) (flat_map f js) ≡ f k) → filter (is_of kind (code k)) (f j ++ flat_map f js) ≡ f k
        by true e g rest =
            filter-append (is_of kind (code k)) (f j) (flat_map f js)
            ∙ ap (λ v. filter (is_of kind (code k)) (f j) ++ v) (nothing (code k) js g)
            ∙ append-nil (filter (is_of kind (code k)) (f j))
            ∙ ap (λ i. filter (is_of kind (code k)) (f i)) (same j k (eqb-true (code j) (code k) e))
            ∙ all_kept kind (code k) (f k) (is_kind k)
        by false e g rest =
            filter-append (is_of kind (code k)) (f j) (flat_map f js)
            ∙ ap (λ v. v ++ filter (is_of kind (code k)) (flat_map f js)) (none_kept kind (code j) (code k) (f j) (is_kind j) e)
            ∙ rest g

  pub had_back : ((j k : K) → code j ≡ code k → j ≡ k) → (f g : K → List A) → ((k : K) → AreOf kind (code k) (f k)) → ((k : K) → AreOf kind (code k) (g k)) →
      (ks : List K) → flat_map f ks ≡ flat_map g ks → (k : K) → once code (code k) ks ≡ true → f k ≡ g k
  had_back same f g p q ks e k h = sym (that f p same k ks h) ∙ ap (filter (is_of kind (code k))) e ∙ that g q same k ks h
