-- What a judge answers of lists of mentions that are joined.
use Rattle.std.proofs.Common.{◌≡◌, ℕ, ◌+◌, ◌<◌, ◌≤◌, Bool, List, [], ◌∷◌, ◌++◌, Option, Some, None, map, length, drop, get_or, refl, sym, ◌∙◌, ap, subst}
use Rattle.std.specs.Prelude.{Result, Ok, Err}
use Rattle.std.specs.List.{flat_map}
use Rattle.std.proofs.lemmas.List.{drop_more, drop_all}
use Rattle.std.proofs.lemmas.List.Concat.{flat_map-append}
use Rattle.std.proofs.lemmas.List.Folds.{flat_map-map}
use Rattle.wast_names.specs.Walk.{first_unmet}
use Rattle.wast_names.proofs.Walk.{unmet_after, unmet_stops}
use Rattle.wast_mentions.specs.Judging.{Judged}

-- what each of a list says, seen by a view
pub each_seen : {X Y M : Type 0} (mentions : Y → List M) (view : X → Y) (items xs : List X) → items ≡ xs → flat_map (λ x. mentions (view x)) items ≡ flat_map mentions (map view xs)
each_seen mentions view items xs e = ap (flat_map (λ x. mentions (view x))) e ∙ sym (flat_map-map mentions view xs)

pub indices_seen : {X Y M : Type 0} (mention : Y → M) (view : X → Y) (xs : List X) → flat_map (λ x. mention (view x) ∷ []) xs ≡ map mention (map view xs)
indices_seen mention view [] = refl
indices_seen mention view (x ∷ xs) = ap (λ l. mention (view x) ∷ l) (indices_seen mention view xs)

module _ {M D E : Type 0} (asks : M → List D) (holds : D → Bool) (tells : Option D → E → Type 0) where
  abbrev pub unmet : List M → Option D
  unmet ms = first_unmet holds (flat_map asks ms)

  -- the same mentions
  pub judged_as : {T : Type 0} (r : Result T E) (xs ys : List M) → xs ≡ ys → Judged asks holds tells r xs → Judged asks holds tells r ys
  judged_as r xs ys e h = subst (λ ms. Judged asks holds tells r ms) e h

  -- ONE LIST, THEN ANOTHER
  unmet_then : (xs ys : List M) → unmet xs ≡ None → unmet (xs ++ ys) ≡ unmet ys
  unmet_then xs ys met = ap (first_unmet holds) (flat_map-append asks xs ys) ∙ unmet_after holds (flat_map asks xs) (flat_map asks ys) met

  -- where all that the first asks is met, the answer is that of the second
  pub judged_then : {T : Type 0} (r : Result T E) (xs ys : List M) → unmet xs ≡ None → Judged asks holds tells r ys → Judged asks holds tells r (xs ++ ys)
  judged_then (Ok y) xs ys met h = unmet_then xs ys met ∙ h
  judged_then (Err e) xs ys met h = subst (λ d. tells d e) (sym (unmet_then xs ys met)) h

  pub met_then : (xs ys : List M) → unmet xs ≡ None → unmet ys ≡ None → unmet (xs ++ ys) ≡ None
  met_then xs ys met h = unmet_then xs ys met ∙ h

  pub told_then : (e : E) (xs ys : List M) → unmet xs ≡ None → tells (unmet ys) e → tells (unmet (xs ++ ys)) e
  told_then e xs ys met h = subst (λ d. tells d e) (sym (unmet_then xs ys met)) h

  -- the same where the first is one mention
  pub judged_next : {T : Type 0} (r : Result T E) (m : M) (ys : List M) → unmet (m ∷ []) ≡ None → Judged asks holds tells r ys → Judged asks holds tells r (m ∷ ys)
  judged_next r m ys = judged_then r (m ∷ []) ys

  pub told_next : (e : E) (m : M) (ys : List M) → unmet (m ∷ []) ≡ None → tells (unmet ys) e → tells (unmet (m ∷ ys)) e
  told_next e m ys = told_then e (m ∷ []) ys

  module _ (anywhere : (d : Option D) (e : E) → tells None e → tells d e) where
    tells_too : (e : E) (o answer : Option D) → ((d : D) → o ≡ Some d → answer ≡ Some d) → tells o e → tells answer e
    tells_too e None answer h t = anywhere answer e t
    tells_too e (Some d) answer h t = subst (λ a. tells a e) (sym (h d refl)) t

    -- a fault at the first is one of both
    pub judged_stops : (e : E) (xs ys : List M) → tells (unmet xs) e → tells (unmet (xs ++ ys)) e
    judged_stops e xs ys h = tells_too e (unmet xs) (unmet (xs ++ ys)) (λ d stop. ap (first_unmet holds) (flat_map-append asks xs ys) ∙ unmet_stops holds (flat_map asks xs) (flat_map asks ys) d stop) h

    pub judged_stops_next : (e : E) (m : M) (ys : List M) → tells (unmet (m ∷ [])) e → tells (unmet (m ∷ ys)) e
    judged_stops_next e m ys = judged_stops e (m ∷ []) ys

  -- EACH OF A LIST: a loop over xs, whose i-th element is x, has in its invariant that the first unmet of those that are left is the first of all
  module _ {X : Type 0} (mentions : X → List M) where
    at_place : (xs : List X) (i : ℕ) (x : X) → i < length xs → x ≡ get_or xs i x → flat_map mentions (drop i xs) ≡ mentions x ++ flat_map mentions (drop (i + 1) xs)
    at_place xs i x h e = ap (flat_map mentions) (drop_more xs i x h ∙ ap (λ y. y ∷ drop (i + 1) xs) (sym e))

    abbrev pub Left : List X → ℕ → Type 0
    Left xs i = unmet (flat_map mentions (drop i xs)) ≡ unmet (flat_map mentions xs)

    pub each_goes : (xs : List X) (i : ℕ) (x : X) → i < length xs → x ≡ get_or xs i x → unmet (mentions x) ≡ None → Left xs i → Left xs (i + 1)
    each_goes xs i x h e met l = sym (unmet_then (mentions x) (flat_map mentions (drop (i + 1) xs)) met) ∙ ap unmet (sym (at_place xs i x h e)) ∙ l

    pub each_ends : (xs : List X) (i : ℕ) → length xs ≤ i → Left xs i → unmet (flat_map mentions xs) ≡ None
    each_ends xs i end l = sym l ∙ ap (λ rest. unmet (flat_map mentions rest)) (drop_all i xs end)

    pub each_stops : (anywhere : (d : Option D) (e : E) → tells None e → tells d e) (fault : E) (xs : List X) (i : ℕ) (x : X) → i < length xs → x ≡ get_or xs i x
        → tells (unmet (mentions x)) fault → Left xs i → tells (unmet (flat_map mentions xs)) fault
    each_stops anywhere fault xs i x h e stop l =
        subst (λ d. tells d fault) (ap unmet (sym (at_place xs i x h e)) ∙ l) (judged_stops anywhere fault (mentions x) (flat_map mentions (drop (i + 1) xs)) stop)
