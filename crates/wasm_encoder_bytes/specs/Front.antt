-- What bytes begin with.
use Rattle.std.specs.Prelude.{ℕ, ◌≡◌, List, ◌++◌}

abbrev pub StandsInFront : List ℕ → List ℕ → Type 0
StandsInFront spelled bytes = (rest : List ℕ) × (bytes ≡ spelled ++ rest)
