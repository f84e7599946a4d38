-- The first form of lists that are joined.
use Rattle.std.proofs.Common.{◌≡◌, ℕ, ◌+◌, ◌<◌, ◌≤◌, List, [], ◌∷◌, ◌++◌, Option, Some, None, map, length, drop, get_or, refl, sym, ◌∙◌, ap}
use Rattle.std.specs.List.{flat_map}
use Rattle.std.specs.Option.{option_or}
use Rattle.std.proofs.lemmas.List.{drop_more, drop_all}
use Rattle.wast_conversions.specs.Covered.{Form}
use Rattle.wast_uncovered.specs.First.{first}

pub first_joined : (xs ys : List Form) → first (xs ++ ys) ≡ option_or (first xs) (first ys)
first_joined [] ys = refl
first_joined (x ∷ xs) ys = refl

none_first : (xs ys : List Form) → first xs ≡ None → first (xs ++ ys) ≡ first ys
none_first xs ys e = first_joined xs ys ∙ ap (λ o. option_or o (first ys)) e

some_first : (xs ys : List Form) (f : Form) → first xs ≡ Some f → first (xs ++ ys) ≡ Some f
some_first xs ys f e = first_joined xs ys ∙ ap (λ o. option_or o (first ys)) e

-- EACH OF A LIST: the first form of those that are left is the first of all
module _ {X T : Type 0} (tree : X → T) (forms : T → List Form) where
  abbrev all : List X → Option Form
  all xs = first (flat_map forms (map tree xs))

  at_place : (xs : List X) (i : ℕ) (x : X) → i < length xs → x ≡ get_or xs i x → all (drop i xs) ≡ first (forms (tree x) ++ flat_map forms (map tree (drop (i + 1) xs)))
  at_place xs i x h e = ap all (drop_more xs i x h ∙ ap (λ y. y ∷ drop (i + 1) xs) (sym e))

  abbrev pub Left : List X → ℕ → Type 0
  Left xs i = all (drop i xs) ≡ all xs

  pub each_goes : (xs : List X) (i : ℕ) (x : X) → i < length xs → x ≡ get_or xs i x → first (forms (tree x)) ≡ None → Left xs i → Left xs (i + 1)
  each_goes xs i x h e none l = sym (none_first (forms (tree x)) (flat_map forms (map tree (drop (i + 1) xs))) none) ∙ sym (at_place xs i x h e) ∙ l

  pub each_ends : (xs : List X) (i : ℕ) → length xs ≤ i → Left xs i → None ≡ all xs
  each_ends xs i end l = ap all (sym (drop_all i xs end)) ∙ l

  pub each_stops : (xs : List X) (i : ℕ) (x : X) (f : Form) → i < length xs → x ≡ get_or xs i x → first (forms (tree x)) ≡ Some f → Left xs i → Some f ≡ all xs
  each_stops xs i x f h e some l = sym (some_first (forms (tree x)) (flat_map forms (map tree (drop (i + 1) xs))) f some) ∙ sym (at_place xs i x h e) ∙ l
