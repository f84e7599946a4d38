-- Refusals, by the first demand that isn't met.
use Rattle.std.proofs.Common.{◌≡◌, ℕ, List, Result, Ok, Err, inl, inr, sym, subst, ◌∙◌}
use Rattle.wast_grammar.specs.Tokens.{Name}
use Rattle.wast_parser.specs.Problem.{Problem}
use Rattle.wast_names.specs.Walk.{first_unmet}
use Rattle.wast_names.specs.Demand.{Demand, is_met, Tells, Answers}

-- Of demands only the first that isn't met counts.
pub answers_first : {T : Type 0} (r : Result T Problem) (ds es : List (Demand Name ℕ)) → first_unmet is_met ds ≡ first_unmet is_met es → Answers r ds → Answers r es
answers_first (Ok x) ds es e h = sym e ∙ h
answers_first (Err p) ds es e (inl memory) = inl memory
answers_first (Err p) ds es e (inr told) = inr (subst (λ o. Tells o p) e told)
