-- Lists of which each element is so, and lists of lists.
use Rattle.std.proofs.Common.{ℕ, zero, suc, ◌+◌, ◌<◌, List, [], ◌∷◌, length, take, get_or, sym, arith, subst}
use Rattle.std.specs.List.{flat_map, AllByRecursion}
use Rattle.std.proofs.lemmas.List.{take_more}
use Rattle.wasm_layout.proofs.Joined.{all_joined, all_front, all_back}

module _ {A : Type 0} (P : A → Type 0) where
  -- of one of them
  pub all_at : (xs : List A) (k : ℕ) (d : A) → k < length xs → AllByRecursion P xs → P (get_or xs k d)
  all_at [] k d l h = absurd (omega (arith, l))
  all_at (x ∷ xs) zero d l h = h.0
  all_at (x ∷ xs) (suc k) d l h = all_at xs k d (omega (arith, l)) h.1

  -- of one more
  pub all_more : (xs : List A) (k : ℕ) (d : A) → k < length xs → AllByRecursion P (take k xs) → P (get_or xs k d) → AllByRecursion P (take (k + 1) xs)
  all_more xs k d l h p = subst (AllByRecursion P) (sym (take_more xs k d l)) (all_joined P (take k xs) (get_or xs k d ∷ []) h (p, tt))

  pub all_of : (xs : List A) → ((x : A) → P x) → AllByRecursion P xs
  all_of [] so = tt
  all_of (x ∷ xs) so = (so x, all_of xs so)

module _ {A B : Type 0} (P : B → Type 0) (f : A → List B) where
  -- of lists that are joined
  pub all_flat : (xs : List A) → AllByRecursion (λ x. AllByRecursion P (f x)) xs → AllByRecursion P (flat_map f xs)
  all_flat [] h = tt
  all_flat (x ∷ xs) h = all_joined P (f x) (flat_map f xs) h.0 (all_flat xs h.1)

  pub flat_all : (xs : List A) → AllByRecursion P (flat_map f xs) → AllByRecursion (λ x. AllByRecursion P (f x)) xs
  flat_all [] h = tt
  flat_all (x ∷ xs) h = (all_front P (f x) (flat_map f xs) h, flat_all xs (all_back P (f x) (flat_map f xs) h))

pub all_both : {A : Type 0} (P Q R : A → Type 0) → ((x : A) → P x → Q x → R x) → (xs : List A) → AllByRecursion P xs → AllByRecursion Q xs → AllByRecursion R xs
all_both P Q R so [] h k = tt
all_both P Q R so (x ∷ xs) h k = (so x h.0 k.0, all_both P Q R so xs h.1 k.1)
