-- A test as a table of bytes.
use Rattle.std.proofs.Common.{◌≡◌, ℕ, zero, suc, ◌+◌, ◌<◌, Bool, List, [], ◌∷◌, get_or, ◌∙◌, ap, arith}

abbrev pub upto : (ℕ → Bool) → ℕ → ℕ → List Bool
upto p from zero = []
upto p from (suc n) = p from ∷ upto p (from + 1) n

pub upto_is : (p : ℕ → Bool) (n from i : ℕ) (d : Bool) → i < n → get_or (upto p from n) i d ≡ p (from + i)
upto_is p zero from i d h = absurd (omega arith)
upto_is p (suc n) from zero d h = ap p (omega arith)
upto_is p (suc n) from (suc i) d h = upto_is p n (from + 1) i d (omega arith) ∙ ap p (omega arith)
