-- What stands behind the first byte.
use Rattle.std.proofs.Common.{ℕ, ◌≡◌, ◌-◌, ◌≤◌, List, ◌∷◌, ◌++◌, length, take, drop, ap, ◌∙◌, arith, take_all}
use Rattle.wasm_encoder_base.specs.Front.{StandsInFront}

behind : (b : ℕ) (l : List ℕ) → take (length (b ∷ l) - 1) (drop 1 (b ∷ l)) ≡ l
behind b l = ap (λ n. take n l) (let e : length (b ∷ l) - 1 ≡ length l = omega arith in e) ∙ take_all (length l) l (let h : length l ≤ length l = omega arith in h)

pub front_behind : (b : ℕ) (spelled all bytes : List ℕ) → all ≡ bytes → StandsInFront (b ∷ spelled) bytes → StandsInFront spelled (take (length all - 1) (drop 1 all))
front_behind b spelled all bytes e h = (h.0, ap (λ l. take (length l - 1) (drop 1 l)) (e ∙ h.1) ∙ behind b (spelled ++ h.0))
