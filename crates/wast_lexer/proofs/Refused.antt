-- A byte that begins none of the refused characters.
use Rattle.std.proofs.Common.{◌≡◌, ℕ, false, List, [], ◌∷◌, refl}
use Rattle.std.specs.Prelude.{◌==◌}
use Rattle.wast_lexer.specs.Kinds.{starts_refused}

pub not_refused : (c : ℕ) (s : List ℕ) → (c == 0xE2) ≡ false → starts_refused (c ∷ s) ≡ false
not_refused c [] h = refl
not_refused c (a ∷ []) h = refl
not_refused c (a ∷ b ∷ s) h = rw h refl
