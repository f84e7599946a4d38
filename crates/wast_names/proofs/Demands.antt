-- How refusals of steps are those of walks.
use Rattle.std.proofs.Common.{◌≡◌, ℕ, ◌<◌, List, ◌++◌, Option, Some, None, inl, inr, drop, length, get_or, refl, sym, subst}
use Rattle.wast_parser.specs.Tokens.{Name}
use Rattle.wast_parser.specs.Problem.{Problem}
use Rattle.wast_names.specs.Walk.{first_unmet, walked}
use Rattle.wast_names.specs.Demand.{Demand, is_met, Tells, Refuses}
use Rattle.wast_names.proofs.Walk.{unmet_after, unmet_stops, walk_stops}

tells_of : (p : Problem) (o answer : Option (Demand Name ℕ)) → ((d : Demand Name ℕ) → o ≡ Some d → answer ≡ Some d) → Tells o p → Tells answer p
tells_of p None answer h t = absurd t
tells_of p (Some d) answer h t = subst (λ a. Tells a p) (sym (h d refl)) t

-- a refusal at an element of a loop is that of its walk, whose first unmet demand is the answer
pub walk_refuses : {S X : Type 0} (after : S → X → S) (asks : S → X → List (Demand Name ℕ)) (s : S) (xs : List X) (i : ℕ) (x : X) (ds : List (Demand Name ℕ)) (p : Problem)
    → i < length xs → x ≡ get_or xs i x → first_unmet is_met (walked asks after s (drop i xs)) ≡ first_unmet is_met ds → Refuses (asks s x) p → Refuses ds p
walk_refuses after asks s xs i x ds p h e met (inl memory) = inl memory
walk_refuses after asks s xs i x ds p h e met (inr told) =
    inr (tells_of p (first_unmet is_met (asks s x)) (first_unmet is_met ds) (λ d. walk_stops after asks is_met s xs i x (first_unmet is_met ds) d h e met) told)

-- demands in two lists: a refusal of the first is one of both
pub refuses_first : (xs ys : List (Demand Name ℕ)) (p : Problem) → Refuses xs p → Refuses (xs ++ ys) p
refuses_first xs ys p (inl memory) = inl memory
refuses_first xs ys p (inr told) = inr (tells_of p (first_unmet is_met xs) (first_unmet is_met (xs ++ ys)) (λ d. unmet_stops is_met xs ys d) told)

-- and one of the second, where those of the first are met
pub refuses_second : (xs ys : List (Demand Name ℕ)) (p : Problem) → first_unmet is_met xs ≡ None → Refuses ys p → Refuses (xs ++ ys) p
refuses_second xs ys p met (inl memory) = inl memory
refuses_second xs ys p met (inr told) = inr (subst (λ o. Tells o p) (sym (unmet_after is_met xs ys met)) told)
