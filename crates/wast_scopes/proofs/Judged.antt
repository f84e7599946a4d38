-- What judges and tests answer of demands.
use Rattle.std.proofs.Common.{◌≡◌, ℕ, List, [], ◌∷◌, ◌++◌, None, sym, subst, ◌∙◌, ap, append-nil, Result, Ok, Err}
use Rattle.std.specs.List.{flat_map}
use Rattle.wast_grammar.specs.Tokens.{Name}
use Rattle.wast_parser.specs.Problem.{Problem}
use Rattle.wast_names.specs.Walk.{first_unmet}
use Rattle.wast_names.specs.Demand.{Demand, is_met, Refuses, Answers}
use Rattle.wast_names.proofs.Walk.{unmet_after}
use Rattle.wast_names.proofs.Demands.{refuses_second}
use Rattle.wast_mentions.specs.Judging.{Judged}
use Rattle.wast_scopes.specs.Views.{Refused}

-- what is said of one mention
pub judged_one : {M T : Type 0} (asks : M → List (Demand Name ℕ)) (r : Result T Problem) (m : M) → Answers r (asks m) → Judged asks is_met Refused r (m ∷ [])
judged_one asks (Ok x) m h = ap (first_unmet is_met) (append-nil (asks m)) ∙ h
judged_one asks (Err p) m h = subst (λ ds. Refuses ds p) (sym (append-nil (asks m))) h

-- what a judge answers is the answer
pub answers_all : {M T : Type 0} (asks : M → List (Demand Name ℕ)) (r : Result T Problem) (ms : List M) → Judged asks is_met Refused r ms → Answers r (flat_map asks ms)
answers_all asks (Ok x) ms h = h
answers_all asks (Err p) ms h = h

-- where all of the first are met, the answer is that of the second
pub answers_then : {T : Type 0} (r : Result T Problem) (xs ys : List (Demand Name ℕ)) → first_unmet is_met xs ≡ None → Answers r ys → Answers r (xs ++ ys)
answers_then (Ok x) xs ys met h = unmet_after is_met xs ys met ∙ h
answers_then (Err p) xs ys met h = refuses_second xs ys p met h

pub answers_as : {T : Type 0} (r : Result T Problem) (xs ys : List (Demand Name ℕ)) → xs ≡ ys → Answers r xs → Answers r ys
answers_as r xs ys e h = subst (λ ds. Answers r ds) e h

-- ONE DEMAND
