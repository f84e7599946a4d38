-- Lists that a test holds of, lists of which nothing is left, and lists that stay.
use Rattle.std.proofs.Common.{◌≡◌, Bool, true, false, List, [], ◌∷◌, ◌++◌, map, All, Option, Some, None, refl, ap}
use Rattle.std.specs.Prelude.{not, filter, if◌then◌else◌, option_map, option_to_list}
use Rattle.std.specs.List.{flat_map, list_all}
use Rattle.std.specs.Cmp.Derive.{both_true}
use Rattle.std.proofs.lemmas.Bool.{false≢true}
use Rattle.std.proofs.lemmas.List.Elements.{All-nil, All-cons}
use Rattle.wast_meaning.specs.Written.{has_any}
use Rattle.wast_meaning.proofs.Settled.{left, right, front, back, two}
use Rattle.wast_resolve_laws.proofs.Taking.{both}

module _ {A X : Type 0} (q : A → Bool) (g : X → List A) where
  -- what follows of each element of a list from what a test says of its parts
  pub each_is : (Q : X → Type 0) → ((x : X) → list_all q (g x) ≡ true → Q x) → (xs : List X) → list_all q (flat_map g xs) ≡ true → All Q xs
  each_is Q so [] e = All-nil Q
  each_is Q so (x ∷ xs) e = All-cons Q x xs (so x (front q (g x) (flat_map g xs) e)) (each_is Q so xs (back q (g x) (flat_map g xs) e))

  pub each_holds : ((x : X) → list_all q (g x) ≡ true) → (xs : List X) → list_all q (flat_map g xs) ≡ true
  each_holds so [] = refl
  each_holds so (x ∷ xs) = both q (g x) (flat_map g xs) (so x) (each_holds so xs)

-- those that are left of a list pass what all pass
pub filter_holds : {A : Type 0} (q p : A → Bool) (xs : List A) → list_all q xs ≡ true → list_all q (filter p xs) ≡ true
filter_holds q p [] e = refl
filter_holds q p (x ∷ xs) e = by_case (p x) (left (q x) (list_all q xs) e) (filter_holds q p xs (right (q x) (list_all q xs) e))
  where
    by_case : (b : Bool) → q x ≡ true → list_all q (filter p xs) ≡ true → list_all q (if b then x ∷ filter p xs else filter p xs) ≡ true
    by_case true a rest = both_true a rest
    by_case false a rest = rest

-- nothing is left
pub none_left : {A : Type 0} (xs : List A) → not (has_any xs) ≡ true → xs ≡ []
none_left [] e = refl
none_left (x ∷ xs) e = elim (false≢true e) [ ]

pub is_none_left : {A : Type 0} (xs : List A) → xs ≡ [] → not (has_any xs) ≡ true
is_none_left xs e = ap (λ ys. not (has_any ys)) e

-- lists of which each element gives the same
module _ {A X : Type 0} (g : X → List A) (h : X → X) (so : (x : X) → g (h x) ≡ g x) where
  pub each_kept : (xs : List X) → flat_map g (map h xs) ≡ flat_map g xs
  each_kept [] = refl
  each_kept (x ∷ xs) = two (λ a b. a ++ b) (so x) (each_kept xs)

  pub one_kept : (o : Option X) → flat_map g (option_to_list (option_map h o)) ≡ flat_map g (option_to_list o)
  one_kept None = refl
  one_kept (Some x) = each_kept (x ∷ [])
