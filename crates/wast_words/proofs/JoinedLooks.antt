-- Looks that ask for one or the other.
use Rattle.std.proofs.Common.{◌≡◌, Bool, true, false, List, [], ◌∷◌, Some, None, Result, Ok, Err, refl, subst, sym, ◌∙◌, ap, cond, inl, inr}
use Rattle.std.proofs.lemmas.Bool.{cases_Bool}
use Rattle.wast_parser.specs.Significant.{TextToken}
use Rattle.wast_parser.specs.Look.{Test, On, AFault, Any, Look, look, fits, any_fits, at, any_deep, is_deep, join, faults, ask, apart}
use Rattle.wast_parser.proofs.Looks.{in_join, join_left, apart_no2, asked, answered}
use Rattle.wast_parser.specs.Problem.{Problem}
use Rattle.wast_parser.specs.State.{Source}
use Rattle.wast_parser.specs.Reading.{Asks, IsStop}

deep_join : (t u : List Test) → any_deep (join t u) ≡ cond (any_deep t) true (any_deep u)
deep_join [] u = refl
deep_join (v ∷ t) u = elim (cases_Bool (is_deep v)) [
  | inl y ↦ rw y refl
  | inr n ↦ rw n (deep_join t u)
]

-- what may not be met, by whether a parenthesis is looked behind
fault_at : Look → Bool → Bool
fault_at x deep = cond (fits (On false AFault Any) x) true (any_fits (cond deep (On true AFault Any ∷ []) []) x)

fault_more : (x : Look) (a b : Bool) → fault_at x a ≡ true → fault_at x (cond a true b) ≡ true
unfolding fault_at
fault_more x true b h = h
fault_more x false b h = step (fits (On false AFault Any) x) _ h
  where
    step : (p q : Bool) → cond p true false ≡ true → cond p true q ≡ true
    step true q h = refl
    step false q h = cc

fault_other : (x : Look) (a b : Bool) → fault_at x a ≡ false → fault_at x (cond a true b) ≡ fault_at x b
unfolding fault_at
fault_other x false b h = refl
fault_other x true true h = refl
fault_other x true false h = step (fits (On false AFault Any) x) (fits (On true AFault Any) x) h
  where
    step : (p q : Bool) → cond p true (cond q true false) ≡ false → cond p true (cond q true false) ≡ cond p true false
    step true q h = refl
    step false true h = cc
    step false false h = refl

module _ (t u : List Test) (ts : List TextToken) where
  faults_are : (v : List Test) → at (faults v) ts ≡ fault_at (look ts) (any_deep v)
  unfolding fault_at
  faults_are v = refl

  none_of : (v : List Test) → at (faults v) ts ≡ true → ask v ts ≡ None
  none_of v h = rw h refl

  join_none : ask t ts ≡ None → ask (join t u) ts ≡ None
  join_none h = elim (cases_Bool (at (faults t) ts)) [
    | inl y ↦ none_of (join t u) (faults_are (join t u) ∙ ap (fault_at (look ts)) (deep_join t u) ∙ fault_more (look ts) (any_deep t) (any_deep u) (sym (faults_are t) ∙ y))
    | inr n ↦ (let e : Some (at t ts) ≡ None = rw n at h in absurd cc)
  ]

  join_true : apart (faults (join t u)) (join t u) ≡ true → ask t ts ≡ Some true → ask (join t u) ts ≡ Some true
  join_true sure h =
      let y = join_left (look ts) t u (answered t ts true h).1 in
      asked (join t u) ts true (apart_no2 _ (faults (join t u)) (join t u) sure y) y

  join_false : ask t ts ≡ Some false → ask (join t u) ts ≡ ask u ts
  join_false h =
      let k = answered t ts false h in
      let f : at (faults (join t u)) ts ≡ at (faults u) ts =
      faults_are (join t u) ∙ ap (fault_at (look ts)) (deep_join t u) ∙ fault_other (look ts) (any_deep t) (any_deep u) (sym (faults_are t) ∙ k.0) ∙ sym (faults_are u) in
      let g : at (join t u) ts ≡ at u ts = in_join (look ts) t u ∙ ap (λ b. cond b true (at u ts)) k.1 in
      rw (f, g) refl

  module _ (found : Result Bool Problem) (source : Source) where
    -- the first finds one
    pub first_asked : (b : Bool) → found ≡ Ok b → b ≡ true → apart (faults (join t u)) (join t u) ≡ true → Asks found source (ask t ts) → ask (join t u) ts ≡ Some true
    first_asked b e y sure a = join_true sure (subst (λ r. Asks r source (ask t ts)) e a ∙ ap Some y)

    -- the first meets a fault
    pub none_asked : (p : Problem) → found ≡ Err p → Asks found source (ask t ts) → (ask (join t u) ts ≡ None) × IsStop p source
    none_asked p e a = let k = subst (λ r. Asks r source (ask t ts)) e a in (join_none k.0, k.1)

    -- the first finds none, and the second answers
    pub second_asked : (b : Bool) → found ≡ Ok b → b ≡ false → Asks found source (ask t ts) → (r : Result Bool Problem) → Asks r source (ask u ts) → Asks r source (ask (join t u) ts)
    second_asked b e n a r h = subst (Asks r source) (sym (join_false (subst (λ r. Asks r source (ask t ts)) e a ∙ ap Some n))) h
