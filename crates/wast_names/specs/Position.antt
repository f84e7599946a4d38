-- Where in a list of items the one stands that bears a name (WebAssembly 3.0, 6.6.1), over names of any type with a test.
use Rattle.std.specs.Prelude.{ℕ, ◌+◌, Bool, false, if◌then◌else◌, List, [], ◌∷◌, Option, Some, None}
use Rattle.std.specs.Option.{option_or}
use Rattle.std.specs.List.{position_from}

module _ {N : Type 0} (same : N → N → Bool) where
  -- whether an item with this identifier, or with none, bears the name
  abbrev pub bears : N → Option N → Bool
  bears n None = false
  bears n (Some m) = same m n

  -- how many items stand before the first that bears the name
  abbrev pub position : N → List (Option N) → Option ℕ
  position n items = position_from (bears n) 0 items

  -- the number of the last that bears the name, where the first of these items has the number i
  abbrev pub last_from : N → ℕ → List (Option N) → Option ℕ
  last_from n i [] = None
  last_from n i (item ∷ items) = option_or (last_from n (i + 1) items) (if bears n item then Some i else None)

  -- how many items stand before the last that bears the name
  abbrev pub last_position : N → List (Option N) → Option ℕ
  last_position n items = last_from n 0 items
