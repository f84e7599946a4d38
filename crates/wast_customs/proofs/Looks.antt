-- Looks for one of several, by a look for the first and one for the others.
use Rattle.std.proofs.Common.{◌≡◌, Bool, true, false, cond, List, [], ◌∷◌, Some, None, refl, ◌∙◌, ap, sym}
use Rattle.wast_parser.specs.Tokens.{SignificantToken}
use Rattle.wast_parser.specs.Look.{Test, look, fits, at, faults, ask}

-- by what they meet: a fault, the first, the others
first_so : (f a c : Bool) → cond f None (Some (cond a true false)) ≡ Some true → cond f None (Some (cond a true c)) ≡ Some true
first_so true a c h = cc
first_so false true c h = refl
first_so false false c h = cc

others_so : (f a c : Bool) → cond f None (Some (cond a true false)) ≡ Some false → cond f None (Some (cond a true c)) ≡ cond f None (Some c)
others_so true a c h = cc
others_so false true c h = cc
others_so false false c h = refl

fault_so : (f a c : Bool) → cond f None (Some (cond a true false)) ≡ None → cond f None (Some (cond a true c)) ≡ None
fault_so true a c h = refl
fault_so false a c h = cc

module _ {N P : Type 0} (t : Test) (us : List Test) (ts : List (SignificantToken N P)) where
  pub asks_first : faults (t ∷ us) ≡ faults (t ∷ []) → ask (t ∷ []) ts ≡ Some true → ask (t ∷ us) ts ≡ Some true
  asks_first e h = ap (λ fs. cond (at fs ts) None (Some (at (t ∷ us) ts))) e ∙ first_so (at (faults (t ∷ [])) ts) (fits t (look ts)) (at us ts) h

  pub asks_others : faults (t ∷ us) ≡ faults (t ∷ []) → faults us ≡ faults (t ∷ []) → ask (t ∷ []) ts ≡ Some false → ask (t ∷ us) ts ≡ ask us ts
  asks_others e k h =
      ap (λ fs. cond (at fs ts) None (Some (at (t ∷ us) ts))) e
      ∙ others_so (at (faults (t ∷ [])) ts) (fits t (look ts)) (at us ts) h
      ∙ sym (ap (λ fs. cond (at fs ts) None (Some (at us ts))) k)

  pub asks_fault : faults (t ∷ us) ≡ faults (t ∷ []) → ask (t ∷ []) ts ≡ None → ask (t ∷ us) ts ≡ None
  asks_fault e h = ap (λ fs. cond (at fs ts) None (Some (at (t ∷ us) ts))) e ∙ fault_so (at (faults (t ∷ [])) ts) (fits t (look ts)) (at us ts) h
