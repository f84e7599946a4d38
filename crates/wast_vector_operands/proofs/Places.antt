-- Lists by their places.
use Rattle.std.proofs.Common.{◌≡◌, ℕ, zero, suc, List, [], ◌∷◌, length, refl, ◌∙◌, ap, arith, slice_index_or}

-- so many elements of a list, from a place on
abbrev pub elements : {A : Type 0} → A → List A → ℕ → ℕ → List A
elements d xs i zero = []
elements d xs i (suc n) = slice_index_or xs i d ∷ elements d xs (suc i) n

behind_first : {A : Type 0} (d x : A) (xs : List A) (i n : ℕ) → elements d (x ∷ xs) (suc i) n ≡ elements d xs i n
behind_first d x xs i zero = refl
behind_first d x xs i (suc n) = ap (λ ys. slice_index_or xs i d ∷ ys) (behind_first d x xs (suc i) n)

-- a list is its elements
pub listed : {A : Type 0} (d : A) (n : ℕ) (xs : List A) → length xs ≡ n → elements d xs 0 n ≡ xs
listed d zero [] e = refl
listed d zero (x ∷ xs) e = let no : ⊥ = omega (arith, e) in absurd no
listed d (suc n) [] e = let no : ⊥ = omega (arith, e) in absurd no
listed d (suc n) (x ∷ xs) e = ap (λ ys. x ∷ ys) (behind_first d x xs 0 n ∙ listed d n xs (omega (arith, e)))
