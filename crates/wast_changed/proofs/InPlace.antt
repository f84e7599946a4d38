-- A list whose items become others, each in its place: at an index those before it have, and the rest is as it was.
use Rattle.std.proofs.Common.{◌≡◌, ℕ, ◌+◌, ◌<◌, take, drop, set, get_or, map, ap, sym, ◌∙◌, length, arith, List, [], ◌∷◌, ◌++◌}
use Rattle.std.proofs.lemmas.List.{take_more, take_more_set, get_or-drop, drop-drop, drop-set-lt, length-drop, map-append}

module _ {T : Type 0} (items old : List T) (i : ℕ) (d : T) (within : i < length old) (rest : drop i items ≡ drop i old) where
  -- both have an item here, the same
  here : i < length items
  here = let a = length-drop i items in let b = length-drop i old in let c = ap length rest in omega (arith, within, a, b, c)

  pub same_item : get_or items i d ≡ get_or old i d
  same_item =
      let on : i + 0 ≡ i = omega arith in
      ap (λ k. get_or items k d) (sym on) ∙ sym (get_or-drop i items 0 d) ∙ ap (λ xs. get_or xs 0 d) rest ∙ get_or-drop i old 0 d ∙ ap (λ k. get_or old k d) on

  pub rest_more : (y : T) → drop (i + 1) (set items i y) ≡ drop (i + 1) old
  rest_more y = drop-set-lt (i + 1) items i y (omega arith) ∙ sym (drop-drop 1 i items) ∙ ap (drop 1) rest ∙ drop-drop 1 i old

  pub front_more : (y : T) → take (i + 1) (set items i y) ≡ take i items ++ y ∷ []
  front_more y = take_more_set items i y here

  pub before_more : take (i + 1) old ≡ take i old ++ get_or items i d ∷ []
  before_more = take_more old i d within ∙ ap (λ x. take i old ++ x ∷ []) (sym same_item)

  -- what is seen of the items that were passed is what becomes of what is seen of the old ones
  pub turned_more : {A : Type 0} (tree : T → A) (turned : A → A) → map tree (take i items) ≡ map turned (map tree (take i old)) → (y : T) → tree y ≡ turned (tree (get_or items i d))
      → map tree (take (i + 1) (set items i y)) ≡ map turned (map tree (take (i + 1) old))
  turned_more tree turned made y is =
      ap (map tree) (front_more y) ∙ map-append tree (take i items) (y ∷ [])
      ∙ (λ k. made k ++ is k ∷ [])
      ∙ sym (ap (λ xs. map turned (map tree xs)) before_more ∙ ap (map turned) (map-append tree (take i old) _) ∙ map-append turned (map tree (take i old)) _)
