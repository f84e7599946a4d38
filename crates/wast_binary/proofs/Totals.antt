-- What is left behind so many of a list.
use Rattle.std.proofs.Common.{◌≡◌, ℕ, ◌+◌, ◌<◌, ◌≤◌, List, [], ◌∷◌, ◌++◌, map, length, take, get_or, ap, ◌∙◌, arith}
use Rattle.std.specs.List.{flat_map}
use Rattle.std.proofs.lemmas.List.{length-append, take_all, take_more}
use Rattle.wast_binary.specs.Weight.{total}

module _ {X T : Type 0} (weight : T → ℕ) (tree : X → T) where
  total_more : (xs : List X) (y : X) → total weight (map tree (xs ++ y ∷ [])) ≡ total weight (map tree xs) + weight (tree y)
  total_more [] y = omega arith
  total_more (x ∷ xs) y = omega (arith, total_more xs y)

  pub one_behind : (xs : List X) (k : ℕ) (x : X) (left rest room : ℕ) → k < length xs → x ≡ get_or xs k x → left + total weight (map tree (take k xs)) ≤ room
      → rest + weight (tree x) ≤ left → rest + total weight (map tree (take (k + 1) xs)) ≤ room
  one_behind xs k x left rest room l e so now =
      let more = ap (λ ys. total weight (map tree ys)) (take_more xs k x l) ∙ total_more (take k xs) (get_or xs k x) in
      let own = ap (λ y. weight (tree y)) e in
      omega (arith, so, now, more, own)

  pub all_behind : (xs : List X) (k left room : ℕ) → length xs ≤ k → left + total weight (map tree (take k xs)) ≤ room → left + total weight (map tree xs) ≤ room
  all_behind xs k left room l so =
      let all = ap (λ ys. total weight (map tree ys)) (take_all k xs l) in
      omega (arith, so, all)

-- as many parts as there are
module _ {X T A : Type 0} (part : T → List A) (tree : X → T) where
  parts_more : (xs : List X) (y : X) → length (flat_map part (map tree (xs ++ y ∷ []))) ≡ length (flat_map part (map tree xs)) + length (part (tree y))
  parts_more [] y = omega (arith, length-append (part (tree y)) [])
  parts_more (x ∷ xs) y = omega (arith, parts_more xs y, length-append (part (tree x)) (flat_map part (map tree (xs ++ y ∷ []))), length-append (part (tree x)) (flat_map part (map tree xs)))

  pub count_behind : (xs : List X) (k : ℕ) (x : X) (count own : ℕ) → k < length xs → x ≡ get_or xs k x → count ≡ length (flat_map part (map tree (take k xs))) → own ≡ length (part (tree x))
      → count + own ≡ length (flat_map part (map tree (take (k + 1) xs)))
  count_behind xs k x count own l e so now =
      let more = ap (λ ys. length (flat_map part (map tree ys))) (take_more xs k x l) ∙ parts_more (take k xs) (get_or xs k x) in
      let here = ap (λ y. length (part (tree y))) e in
      omega (arith, so, now, more, here)

  pub count_all : (xs : List X) (k count : ℕ) → length xs ≤ k → count ≡ length (flat_map part (map tree (take k xs))) → count ≡ length (flat_map part (map tree xs))
  count_all xs k count l so = so ∙ ap (λ ys. length (flat_map part (map tree ys))) (take_all k xs l)
