-- Loops over slices and from their ends.
use Rattle.std.proofs.Common.{◌≡◌, ℕ, zero, suc, arith, ◌+◌, ◌<◌, ◌≤◌, Bool, true, false, ◌&&◌, ◌||◌, List, [], ◌∷◌, ◌++◌, map, reverse, take, drop, length, get_or, sym, ◌∙◌, ap}
use Rattle.std.specs.List.{flat_map, list_any}
use Rattle.std.proofs.lemmas.List.Concat.{flat_map-append}
use Rattle.std.proofs.lemmas.List.Folds.{list_any-append}
use Rattle.std.proofs.lemmas.List.{map-append, reverse-append, take_more, drop_more, drop_all}
use Rattle.wast_grammar.specs.Tokens.{Name}
use Rattle.wast_grammar.specs.Spelling.{same_name}
use Rattle.wast_names.specs.Walk.{walked}
use Rattle.wast_names.specs.Demand.{Demand}
use Rattle.wast_core_instr.specs.InstructionTree.{Instruction}
use Rattle.wast_meaning.specs.Demands.{mention_demands}
use Rattle.wast_meaning.specs.Mentions.{instr_mentions}
use Rattle.wast_meaning.specs.Scope.{Scope}
use Rattle.wast_bound.specs.Bound.{are_kept}
use Rattle.wast_bound.specs.Places.{among}
use Rattle.wast_bound.proofs.Kept.{kept_then}

-- what stands at a place is one
pub same_at : {X : Type 0} (xs : List X) (k : ℕ) (a b : X) → k < length xs → a ≡ get_or xs k a → b ≡ get_or xs k b → a ≡ b
same_at [] k a b lt left right = absurd (omega (arith, lt))
same_at (x ∷ xs) zero a b lt left right = left ∙ sym right
same_at (x ∷ xs) (suc k) a b lt left right = same_at xs k a b (omega (arith, lt)) left right

-- the last of a list comes first behind the others turned round
pub last_first : {X Y : Type 0} (view : X → Y) (xs : List X) (x : X) → reverse (map view (xs ++ x ∷ [])) ≡ view x ∷ reverse (map view xs)
last_first view xs x = ap reverse (map-append view xs (x ∷ [])) ∙ reverse-append (map view xs) (view x ∷ [])

-- A loop over xs, whose i-th element is x, has in its invariant that what is left is kept exactly where all is.
module _ {X Y : Type 0} (view : X → Y) (asks : List Y → Y → List (Demand Name ℕ)) where
  abbrev pub left : List X → ℕ → Bool
  left xs i = are_kept (walked asks (λ earlier y. y ∷ earlier) (reverse (map view (take i xs))) (map view (drop i xs)))

  at_place : (xs : List X) (i : ℕ) (x : X) → i < length xs → x ≡ get_or xs i x → left xs i ≡ (are_kept (asks (reverse (map view (take i xs))) (view x)) && left xs (i + 1))
  at_place xs i x lt at =
      let before = reverse (map view (take i xs)) in
      ap (λ ys. are_kept (walked asks (λ earlier y. y ∷ earlier) before (map view ys))) (drop_more xs i x lt ∙ ap (λ y. y ∷ drop (i + 1) xs) (sym at))
      ∙ kept_then (asks before (view x)) (walked asks (λ earlier y. y ∷ earlier) (view x ∷ before) (map view (drop (i + 1) xs)))
      ∙ ap (λ earlier. are_kept (asks before (view x)) && are_kept (walked asks (λ earlier y. y ∷ earlier) earlier (map view (drop (i + 1) xs))))
      (sym (ap (λ ys. reverse (map view ys)) (take_more xs i x lt ∙ ap (λ y. take i xs ++ y ∷ []) (sym at)) ∙ last_first view (take i xs) x))

  pub walk_goes : (xs : List X) (i : ℕ) (x : X) (whole : Bool) → i < length xs → x ≡ get_or xs i x → true ≡ are_kept (asks (reverse (map view (take i xs))) (view x)) → left xs i ≡ whole → left xs (i + 1) ≡ whole
  walk_goes xs i x whole lt at kept l = ap (λ b. b && left xs (i + 1)) kept ∙ sym (at_place xs i x lt at) ∙ l

  pub walk_stops : (xs : List X) (i : ℕ) (x : X) (whole : Bool) → i < length xs → x ≡ get_or xs i x → false ≡ are_kept (asks (reverse (map view (take i xs))) (view x)) → left xs i ≡ whole → false ≡ whole
  walk_stops xs i x whole lt at broken l = ap (λ b. b && left xs (i + 1)) broken ∙ sym (at_place xs i x lt at) ∙ l

  pub walk_ends : (xs : List X) (i : ℕ) (whole : Bool) → length xs ≤ i → left xs i ≡ whole → true ≡ whole
  walk_ends xs i whole end l = ap (λ ys. are_kept (walked asks (λ earlier y. y ∷ earlier) (reverse (map view (take i xs))) (map view ys))) (sym (drop_all i xs end)) ∙ l

-- The same, of a loop that looks for one that passes a test among what each element gives.
module _ {X Y Z : Type 0} (p : Z → Bool) (of : Y → List Z) (view : X → Y) where
  abbrev pub any_left : List X → ℕ → Bool
  any_left xs i = list_any p (flat_map of (map view (drop i xs)))

  abbrev pub Any : List X → ℕ → Type 0
  Any xs i = any_left xs i ≡ list_any p (flat_map of (map view xs))

  one_here : (xs : List X) (i : ℕ) (x : X) → i < length xs → x ≡ get_or xs i x → any_left xs i ≡ (list_any p (of (view x)) || any_left xs (i + 1))
  one_here xs i x lt at =
      ap (λ ys. list_any p (flat_map of (map view ys))) (drop_more xs i x lt ∙ ap (λ y. y ∷ drop (i + 1) xs) (sym at))
      ∙ list_any-append p (of (view x)) (flat_map of (map view (drop (i + 1) xs)))

  pub any_goes : (xs : List X) (i : ℕ) (x : X) → i < length xs → x ≡ get_or xs i x → false ≡ list_any p (of (view x)) → Any xs i → Any xs (i + 1)
  any_goes xs i x lt at none l = ap (λ b. b || any_left xs (i + 1)) none ∙ sym (one_here xs i x lt at) ∙ l

  pub any_ends : (xs : List X) (i : ℕ) → length xs ≤ i → Any xs i → false ≡ list_any p (flat_map of (map view xs))
  any_ends xs i end l = ap (λ ys. list_any p (flat_map of (map view ys))) (sym (drop_all i xs end)) ∙ l

-- The same, of a loop over what each element mentions.
module _ {X Y M : Type 0} (asks : M → List (Demand Name ℕ)) (of : Y → List M) (view : X → Y) where
  abbrev pub all_left : List X → ℕ → Bool
  all_left xs i = are_kept (flat_map asks (flat_map of (map view (drop i xs))))

  all_here : (xs : List X) (i : ℕ) (x : X) → i < length xs → x ≡ get_or xs i x → all_left xs i ≡ (are_kept (flat_map asks (of (view x))) && all_left xs (i + 1))
  all_here xs i x lt at =
      let rest = flat_map of (map view (drop (i + 1) xs)) in
      ap (λ ys. are_kept (flat_map asks (flat_map of (map view ys)))) (drop_more xs i x lt ∙ ap (λ y. y ∷ drop (i + 1) xs) (sym at))
      ∙ ap are_kept (flat_map-append asks (of (view x)) rest)
      ∙ kept_then (flat_map asks (of (view x))) (flat_map asks rest)

  pub all_goes : (xs : List X) (i : ℕ) (x : X) (whole : Bool) → i < length xs → x ≡ get_or xs i x → true ≡ are_kept (flat_map asks (of (view x))) → all_left xs i ≡ whole → all_left xs (i + 1) ≡ whole
  all_goes xs i x whole lt at kept l = ap (λ b. b && all_left xs (i + 1)) kept ∙ sym (all_here xs i x lt at) ∙ l

  pub all_ends : (xs : List X) (i : ℕ) (whole : Bool) → length xs ≤ i → all_left xs i ≡ whole → true ≡ whole
  all_ends xs i whole end l = ap (λ ys. are_kept (flat_map asks (flat_map of (map view ys)))) (sym (drop_all i xs end)) ∙ l

-- what one asks at the place of another, behind those before it
abbrev pub asked_there : {X : Type 0} (view : X → Instruction Name ℕ) → Scope Name ℕ → List X → ℕ → X → Instruction Name ℕ → List (Demand Name ℕ)
asked_there view s xs k place i = flat_map (mention_demands same_name (among s (map view (take k xs)) (view place))) (instr_mentions i)

pub asked_alike : {X : Type 0} (view : X → Instruction Name ℕ) (s : Scope Name ℕ) (i : Instruction Name ℕ) (xs : List X) (k : ℕ) (a b : X) → k < length xs → a ≡ get_or xs k a → b ≡ get_or xs k b
    → are_kept (asked_there view s xs k a i) ≡ are_kept (asked_there view s xs k b i)
asked_alike {X} view s i xs k a b lt left right = ap (λ (x : X). are_kept (asked_there view s xs k x i)) (same_at xs k a b lt left right)
