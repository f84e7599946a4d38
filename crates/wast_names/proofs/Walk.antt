-- How the steps of a loop meet the definition of its walk. A loop over xs, whose i-th element is x, has two facts in its invariant:
-- `known`, what it knows is what is reached behind the first i elements; and `met`, the first unmet demand of those that are left is the
-- first of all. `reached_more` and `walk_more` keep them, `walk_stops` answers where a step refuses, and `walk_done` at the end.
use Rattle.std.proofs.Common.{◌≡◌, ℕ, ◌+◌, ◌<◌, ◌≤◌, suc, List, [], ◌∷◌, ◌++◌, Option, Some, None, Bool, true, false, map, drop, take, length, get_or, refl, sym, ◌∙◌, ap, add-one, drop-cons}
use Rattle.std.specs.Prelude.{if◌then◌else◌}
use Rattle.std.proofs.lemmas.List.{take_more, drop_all, append_assoc}
use Rattle.wast_names.specs.Walk.{reached, walked, threaded, first_unmet}

-- The demand is the first that isn't met in a walk: it is the first of an element, and all before that element are met.
pub record IsFirstUnmet {S X D : Type 0} (holds : D → Bool) (asks : S → X → List D) (after : S → X → S) (s : S) (xs : List X) (d : D) : Type 0 where
  pub before : List X
  pub element : X
  pub behind : List X
  pub parts : xs ≡ before ++ element ∷ behind
  pub met : first_unmet holds (walked asks after s before) ≡ None
  pub unmet : first_unmet holds (asks (reached after s before) element) ≡ Some d

module _ {D : Type 0} (holds : D → Bool) where
  -- demands that are met leave the later ones
  pub unmet_after : (xs ys : List D) → first_unmet holds xs ≡ None → first_unmet holds (xs ++ ys) ≡ first_unmet holds ys
  unmet_after [] ys = λ h. refl
  unmet_after (d ∷ xs) ys =
      elim (holds d) as (λ b. (if b then first_unmet holds xs else Some d) ≡ None → (if b then first_unmet holds (xs ++ ys) else Some d) ≡ first_unmet holds ys) [
        | true ↦ λ h. unmet_after xs ys h
        | false ↦ λ h. cc
      ]

  -- one that is not met hides the later ones
  pub unmet_stops : (xs ys : List D) (d : D) → first_unmet holds xs ≡ Some d → first_unmet holds (xs ++ ys) ≡ Some d
  unmet_stops [] ys e = λ h. cc
  unmet_stops (d ∷ xs) ys e =
      elim (holds d) as (λ b. (if b then first_unmet holds xs else Some d) ≡ Some e → (if b then first_unmet holds (xs ++ ys) else Some d) ≡ Some e) [
        | true ↦ λ h. unmet_stops xs ys e h
        | false ↦ λ h. h
      ]

  pub unmet_of_both : (xs ys : List D) → first_unmet holds (xs ++ ys) ≡ None → (first_unmet holds xs ≡ None) × (first_unmet holds ys ≡ None)
  unmet_of_both [] ys = λ h. (refl, h)
  unmet_of_both (d ∷ xs) ys =
      elim (holds d) as (λ b. (if b then first_unmet holds (xs ++ ys) else Some d) ≡ None → ((if b then first_unmet holds xs else Some d) ≡ None) × (first_unmet holds ys ≡ None)) [
        | true ↦ λ h. unmet_of_both xs ys h
        | false ↦ λ h. absurd (cc)
      ]

pub rest_is : {X : Type 0} (xs : List X) (i : ℕ) (x : X) → i < length xs → x ≡ get_or xs i x → drop i xs ≡ x ∷ drop (i + 1) xs
rest_is xs i x h e = rw (add-one) (drop-cons xs i x h ∙ ap (λ y. y ∷ drop (suc i) xs) (sym e))

module _ {S X : Type 0} (after : S → X → S) where
  pub reached_append : (s : S) (xs ys : List X) → reached after s (xs ++ ys) ≡ reached after (reached after s xs) ys
  reached_append s [] ys = refl
  reached_append s (x ∷ xs) ys = reached_append (after s x) xs ys

  -- what is known behind one more element
  pub reached_more : (s : S) (xs : List X) (i : ℕ) (x : X) → i < length xs → x ≡ get_or xs i x → reached after s (take (i + 1) xs) ≡ after (reached after s (take i xs)) x
  reached_more s xs i x h e = ap (reached after s) (take_more xs i x h ∙ ap (λ y. take i xs ++ y ∷ []) (sym e)) ∙ reached_append s (take i xs) (x ∷ [])

  module _ {D : Type 0} (asks : S → X → List D) where
    pub walked_append : (s : S) (xs ys : List X) → walked asks after s (xs ++ ys) ≡ walked asks after s xs ++ walked asks after (reached after s xs) ys
    walked_append s [] ys = refl
    walked_append s (x ∷ xs) ys = ap (λ l. asks s x ++ l) (walked_append (after s x) xs ys) ∙ sym (append_assoc (asks s x) (walked asks after (after s x) xs) (walked asks after (reached after (after s x) xs) ys))

    module _ (holds : D → Bool) where
      at_place : (s : S) (xs : List X) (i : ℕ) (x : X) → i < length xs → x ≡ get_or xs i x
          → first_unmet holds (walked asks after s (drop i xs)) ≡ first_unmet holds (asks s x ++ walked asks after (after s x) (drop (i + 1) xs))
      at_place s xs i x h e = ap (λ rest. first_unmet holds (walked asks after s rest)) (rest_is xs i x h e)

      -- the walk goes on past an element whose demands are met
      pub walk_more : (s t : S) (xs : List X) (i : ℕ) (x : X) (answer : Option D) → i < length xs → x ≡ get_or xs i x → first_unmet holds (asks s x) ≡ None → t ≡ after s x
          → first_unmet holds (walked asks after s (drop i xs)) ≡ answer → first_unmet holds (walked asks after t (drop (i + 1) xs)) ≡ answer
      walk_more s t xs i x answer h e met next l =
          ap (λ u. first_unmet holds (walked asks after u (drop (i + 1) xs))) next
          ∙ sym (unmet_after holds (asks s x) (walked asks after (after s x) (drop (i + 1) xs)) met) ∙ sym (at_place s xs i x h e) ∙ l

      -- at the end, nothing was unmet
      pub walk_done : (s : S) (xs : List X) (i : ℕ) (answer : Option D) → length xs ≤ i → first_unmet holds (walked asks after s (drop i xs)) ≡ answer → answer ≡ None
      walk_done s xs i answer end l = sym l ∙ ap (λ rest. first_unmet holds (walked asks after s rest)) (drop_all i xs end)

      -- the first unmet demand of an element is that of the walk
      pub walk_stops : (s : S) (xs : List X) (i : ℕ) (x : X) (answer : Option D) (d : D) → i < length xs → x ≡ get_or xs i x
          → first_unmet holds (walked asks after s (drop i xs)) ≡ answer → first_unmet holds (asks s x) ≡ Some d → answer ≡ Some d
      walk_stops s xs i x answer d h e l stop = sym l ∙ at_place s xs i x h e ∙ unmet_stops holds (asks s x) (walked asks after (after s x) (drop (i + 1) xs)) d stop

      -- ALL DEMANDS ARE MET exactly where those of each element are, by what is known before it
      pub all_met_at : (s : S) (before : List X) (x : X) (behind : List X) → first_unmet holds (walked asks after s (before ++ x ∷ behind)) ≡ None
          → first_unmet holds (asks (reached after s before) x) ≡ None
      all_met_at s [] x behind h = (unmet_of_both holds (asks s x) (walked asks after (after s x) behind) h).0
      all_met_at s (y ∷ before) x behind h = all_met_at (after s y) before x behind (unmet_of_both holds (asks s y) (walked asks after (after s y) (before ++ x ∷ behind)) h).1

      pub all_met_by : (s : S) (xs : List X) → ((before : List X) (x : X) (behind : List X) → xs ≡ before ++ x ∷ behind → first_unmet holds (asks (reached after s before) x) ≡ None)
          → first_unmet holds (walked asks after s xs) ≡ None
      all_met_by s [] h = refl
      all_met_by s (x ∷ xs) h =
          unmet_after holds (asks s x) (walked asks after (after s x) xs) (h [] x xs refl)
          ∙ all_met_by (after s x) xs (λ before y behind e. h (x ∷ before) y behind (ap (λ l. x ∷ l) e))

      -- THE FIRST UNMET is of the element before which all are met
      pub unmet_by : (s : S) (before : List X) (x : X) (behind : List X) (d : D) → first_unmet holds (walked asks after s before) ≡ None
          → first_unmet holds (asks (reached after s before) x) ≡ Some d → first_unmet holds (walked asks after s (before ++ x ∷ behind)) ≡ Some d
      unmet_by s before x behind d met stop =
          ap (first_unmet holds) (walked_append s before (x ∷ behind))
          ∙ unmet_after holds (walked asks after s before) (walked asks after (reached after s before) (x ∷ behind)) met
          ∙ unmet_stops holds (asks (reached after s before) x) (walked asks after (after (reached after s before) x) behind) d stop

      pub unmet_at : (s : S) (xs : List X) (d : D) → first_unmet holds (walked asks after s xs) ≡ Some d → IsFirstUnmet holds asks after s xs d
      unmet_at s [] d h = absurd (cc)
      unmet_at s (x ∷ xs) d h = of (λ met. unmet_at (after s x) xs d (sym (unmet_after holds (asks s x) (walked asks after (after s x) xs) met) ∙ h)) (first_unmet holds (asks s x)) refl
        where
          of : (first_unmet holds (asks s x) ≡ None → IsFirstUnmet holds asks after (after s x) xs d) → (o : Option D) → first_unmet holds (asks s x) ≡ o
              → IsFirstUnmet holds asks after s (x ∷ xs) d
          of later (Some e) is = record {
            before = [];
            element = x;
            behind = xs;
            parts = refl;
            met = refl;
            unmet = is ∙ sym (unmet_stops holds (asks s x) (walked asks after (after s x) xs) e is) ∙ h;
          }
          of later None is =
              let rest = later is in
              record {
                before = x ∷ rest.before;
                element = rest.element;
                behind = rest.behind;
                parts = ap (λ l. x ∷ l) rest.parts;
                met = unmet_after holds (asks s x) (walked asks after (after s x) rest.before) is ∙ rest.met;
                unmet = rest.unmet;
              }

  module _ {Y : Type 0} (to : S → X → Y) where
    pub threaded_append : (s : S) (xs ys : List X) → threaded to after s (xs ++ ys) ≡ threaded to after s xs ++ threaded to after (reached after s xs) ys
    threaded_append s [] ys = refl
    threaded_append s (x ∷ xs) ys = ap (λ l. to s x ∷ l) (threaded_append (after s x) xs ys)

-- lists that are seen by a view
module _ {S X Z : Type 0} (view : X → Z) (after : S → Z → S) where
  pub reached_map : (s : S) (xs : List X) → reached after s (map view xs) ≡ reached (λ t x. after t (view x)) s xs
  reached_map s [] = refl
  reached_map s (x ∷ xs) = reached_map (after s (view x)) xs

  pub walked_map : {D : Type 0} (asks : S → Z → List D) (s : S) (xs : List X) → walked asks after s (map view xs) ≡ walked (λ t x. asks t (view x)) (λ t x. after t (view x)) s xs
  walked_map asks s [] = refl
  walked_map asks s (x ∷ xs) = ap (λ l. asks s (view x) ++ l) (walked_map asks (after s (view x)) xs)
