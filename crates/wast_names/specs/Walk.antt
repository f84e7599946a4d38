-- Passes over a list, in which each element changes what is known to those behind it.
use Rattle.std.specs.Prelude.{Bool, if◌then◌else◌, List, [], ◌∷◌, ◌++◌, Option, Some, None}

-- what is known behind all of the elements
abbrev pub reached : {S X : Type 0} → (S → X → S) → S → List X → S
reached after s [] = s
reached after s (x ∷ xs) = reached after (after s x) xs

-- what the elements ask, each by what is known before it
abbrev pub walked : {S X D : Type 0} → (S → X → List D) → (S → X → S) → S → List X → List D
walked asks after s [] = []
walked asks after s (x ∷ xs) = asks s x ++ walked asks after (after s x) xs

-- the elements, each rewritten by what is known before it
abbrev pub threaded : {S X Y : Type 0} → (S → X → Y) → (S → X → S) → S → List X → List Y
threaded to after s [] = []
threaded to after s (x ∷ xs) = to s x ∷ threaded to after (after s x) xs

-- of demands with a test, the first that isn't met; none where all are
abbrev pub first_unmet : {D : Type 0} → (D → Bool) → List D → Option D
first_unmet holds [] = None
first_unmet holds (d ∷ ds) = if holds d then first_unmet holds ds else Some d
