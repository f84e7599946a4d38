-- Looks at the token in front alone, one after the other.
use Rattle.std.proofs.Common.{◌≡◌, Bool, true, false, List, [], ◌∷◌, Option, Some, None, cond, refl, sym, ◌∙◌, ap}
use Rattle.wast_parser.specs.Tokens.{SignificantToken}
use Rattle.wast_parser.specs.Look.{Test, On, AFault, Any, look, fits, at, any_deep, faults, ask}

-- what they ask, where a fault isn't in front
asks : {N P : Type 0} (tests : List Test) (ts : List (SignificantToken N P)) → any_deep tests ≡ false → ask tests ts ≡ cond (at (faults []) ts) None (Some (at tests ts))
asks tests ts d = ap (λ b. cond (at (On false AFault Any ∷ cond b (On true AFault Any ∷ []) []) ts) None (Some (at tests ts))) d

if_seen : (f k m : Bool) → cond f None (Some (cond k true false)) ≡ Some true → cond {A = Option Bool} f None (Some (cond k true m)) ≡ Some true
if_seen true k m h = cc
if_seen false true m h = refl
if_seen false false m h = cc

if_none : (f k m : Bool) → cond f None (Some (cond k true false)) ≡ None → cond {A = Option Bool} f None (Some (cond k true m)) ≡ None
if_none true k m h = refl
if_none false k m h = cc

if_other : (f k m : Bool) → cond f None (Some (cond k true false)) ≡ Some false → cond {A = Option Bool} f None (Some (cond k true m)) ≡ cond f None (Some m)
if_other true k m h = refl
if_other false true m h = cc
if_other false false m h = refl

module _ {N P : Type 0} (t : Test) (more : List Test) (ts : List (SignificantToken N P)) (flat : any_deep (t ∷ []) ≡ false) (all : any_deep (t ∷ more) ≡ false) where
  -- the first is there; it can't be told; or the others are asked
  pub first_seen : ask (t ∷ []) ts ≡ Some true → ask (t ∷ more) ts ≡ Some true
  first_seen h = asks (t ∷ more) ts all ∙ if_seen (at (faults []) ts) (fits t (look ts)) (at more ts) (sym (asks (t ∷ []) ts flat) ∙ h)

  pub first_untold : ask (t ∷ []) ts ≡ None → ask (t ∷ more) ts ≡ None
  first_untold h = asks (t ∷ more) ts all ∙ if_none (at (faults []) ts) (fits t (look ts)) (at more ts) (sym (asks (t ∷ []) ts flat) ∙ h)

  pub first_other : any_deep more ≡ false → ask (t ∷ []) ts ≡ Some false → ask (t ∷ more) ts ≡ ask more ts
  first_other d h = asks (t ∷ more) ts all ∙ if_other (at (faults []) ts) (fits t (look ts)) (at more ts) (sym (asks (t ∷ []) ts flat) ∙ h) ∙ sym (asks more ts d)
