-- Walks in two orders: by kinds, back and forth, and tested on the way.
use Rattle.std.proofs.Common.{◌≡◌, Bool, true, false, List, [], ◌∷◌, ◌++◌, Option, Some, None, refl, sym, ◌∙◌, ap, subst}
use Rattle.std.specs.Prelude.{if◌then◌else◌, filter}
use Rattle.std.specs.Option.{option_or}
use Rattle.wast_names.specs.Walk.{walked, threaded, first_unmet}
use Rattle.wast_names.proofs.Walk.{unmet_after, unmet_stops, unmet_of_both}
use Rattle.wast_resolve_laws.specs.Walks.{tested}

-- ELEMENTS OF SEVERAL KINDS, of which each is asked by what is known of its own kind, and changes that alone
module _ {K X S D : Type 0} (same : K → K → Bool) (own : X → K) (after : K → S → X → S) (asks : K → S → X → List D) where
  abbrev pub after_own : (K → S) → X → K → S
  after_own states x k = if same k (own x) then after k (states k) x else states k

  abbrev pub asks_own : (K → S) → X → List D
  asks_own states x = asks (own x) (states (own x)) x

  abbrev pub those : K → List X → List X
  those k xs = filter (λ x. same k (own x)) xs

  module _ (holds : D → Bool) (self : (k : K) → same k k ≡ true) (sound : (k l : K) → same k l ≡ true → k ≡ l) where
    abbrev pub met_alone : K → S → List X → Type 0
    met_alone k s xs = first_unmet holds (walked (asks k) (after k) s xs) ≡ None

    -- all demands are met where those of each kind are, its elements walked by themselves
    pub met_apart : (xs : List X) (states : K → S) → first_unmet holds (walked asks_own after_own states xs) ≡ None → (k : K) → met_alone k (states k) (those k xs)
    met_apart [] states met k = refl
    met_apart (x ∷ xs) states met k =
        by_case (same k (own x)) refl (met_apart xs (after_own states x) both.1 k)
      where
        both : (first_unmet holds (asks_own states x) ≡ None) × (first_unmet holds (walked asks_own after_own (after_own states x) xs) ≡ None)
        both = unmet_of_both holds (asks_own states x) (walked asks_own after_own (after_own states x) xs) met

        by_case : (b : Bool) → same k (own x) ≡ b → met_alone k (if b then after k (states k) x else states k) (those k xs) → met_alone k (states k) (if b then x ∷ those k xs else those k xs)
        by_case false e rest = rest
        by_case true e rest =
            unmet_after holds (asks k (states k) x) (walked (asks k) (after k) (after k (states k) x) (those k xs))
            (subst (λ l. first_unmet holds (asks l (states l) x) ≡ None) (sym (sound k (own x) e)) both.0)
            ∙ rest

    pub met_together : (xs : List X) (states : K → S) → ((k : K) → met_alone k (states k) (those k xs)) → first_unmet holds (walked asks_own after_own states xs) ≡ None
    met_together [] states met = refl
    met_together (x ∷ xs) states met =
        unmet_after holds (asks_own states x) (walked asks_own after_own (after_own states x) xs) (here (same (own x) (own x)) (self (own x)) (met (own x)))
        ∙ met_together xs (after_own states x) (λ k. rest k (same k (own x)) (met k))
      where
        here : (b : Bool) → b ≡ true → met_alone (own x) (states (own x)) (if b then x ∷ those (own x) xs else those (own x) xs) → first_unmet holds (asks_own states x) ≡ None
        here true e h = (unmet_of_both holds (asks_own states x) (walked (asks (own x)) (after (own x)) (after (own x) (states (own x)) x) (those (own x) xs)) h).0
        here false e h = absurd (cc)

        rest : (k : K) (b : Bool) → met_alone k (states k) (if b then x ∷ those k xs else those k xs) → met_alone k (if b then after k (states k) x else states k) (those k xs)
        rest k true h = (unmet_of_both holds (asks k (states k) x) (walked (asks k) (after k) (after k (states k) x) (those k xs)) h).1
        rest k false h = h

    -- so two orders agree that keep the order of the elements of each kind
    pub orders_agree : (xs ys : List X) (states : K → S) → ((k : K) → those k xs ≡ those k ys)
        → first_unmet holds (walked asks_own after_own states xs) ≡ None → first_unmet holds (walked asks_own after_own states ys) ≡ None
    orders_agree xs ys states e met = met_together ys states (λ k. ap (λ l. first_unmet holds (walked (asks k) (after k) (states k) l)) (sym (e k)) ∙ met_apart xs states met k)

-- WHAT IS KNOWN FROM THE ELEMENTS BEFORE, the nearest first, is what is handed on
module _ {S X : Type 0} (after : S → X → S) (known : List X → S) (more : (x : X) (before : List X) → known (x ∷ before) ≡ after (known before) x) where
  abbrev pub behind : List X → X → List X
  behind before x = x ∷ before

  pub walked_back : {D : Type 0} (asks : S → X → List D) (before xs : List X) → walked (λ earlier x. asks (known earlier) x) behind before xs ≡ walked asks after (known before) xs
  walked_back asks before [] = refl
  walked_back asks before (x ∷ xs) = ap (λ ds. asks (known before) x ++ ds) (walked_back asks (x ∷ before) xs ∙ ap (λ s. walked asks after s xs) (more x before))

  pub threaded_back : {Y : Type 0} (to : S → X → Y) (before xs : List X) → threaded (λ earlier x. to (known earlier) x) behind before xs ≡ threaded to after (known before) xs
  threaded_back to before [] = refl
  threaded_back to before (x ∷ xs) = ap (λ ys. to (known before) x ∷ ys) (threaded_back to (x ∷ before) xs ∙ ap (λ s. threaded to after s xs) (more x before))

-- TESTED ON THE WAY
module _ {S X D : Type 0} (holds : D → Bool) (asks : S → X → List D) (after : S → X → S) where
  pub tested_so : (s : S) (xs : List X) → first_unmet holds (walked asks after s xs) ≡ tested (λ t x. first_unmet holds (asks t x)) after s xs
  tested_so s [] = refl
  tested_so s (x ∷ xs) = by_case (first_unmet holds (asks s x)) refl (tested_so (after s x) xs)
    where
      by_case : (o : Option D) → first_unmet holds (asks s x) ≡ o
          → first_unmet holds (walked asks after (after s x) xs) ≡ tested (λ t y. first_unmet holds (asks t y)) after (after s x) xs
          → first_unmet holds (asks s x ++ walked asks after (after s x) xs) ≡ option_or o (tested (λ t y. first_unmet holds (asks t y)) after (after s x) xs)
      by_case None e rest = unmet_after holds (asks s x) (walked asks after (after s x) xs) e ∙ rest
      by_case (Some d) e rest = unmet_stops holds (asks s x) (walked asks after (after s x) xs) d e
