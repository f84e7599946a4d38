-- Lists of identifiers as code has them.
use Rattle.std.proofs.Common.{◌≡◌, ℕ, ◌+◌, List, Option, Some, None, Bool, true, false, refl}
use Rattle.std.specs.Prelude.{option_map, if◌then◌else◌}
use Rattle.wast_parser.specs.Tokens.{Name}
use Rattle.wast_parser.specs.Identifier.{Identifier}
use Rattle.wast_parser.specs.Spelling.{same_name}
use Rattle.wast_parser.specs.Identifiers.{identifier_tree}
use Rattle.wast_names.specs.Demand.{Demand}
use Rattle.wast_names.specs.Space.{Space, fresh, after_item, grown, grown_last, registered, last_counts}

abbrev pub asks : List ℕ → Space Name → Option Identifier → List (Demand Name ℕ)
asks kind s id = fresh kind s (option_map identifier_tree id)

abbrev pub after : List ℕ → Space Name → Option Identifier → Space Name
after kind s id = after_item same_name kind s (option_map identifier_tree id)

module _ {N : Type 0} (same : N → N → Bool) (s : Space N) where
  first_one : (item : Option N) → (grown same s item).count ≡ s.count + 1
  first_one None = refl
  first_one (Some n) = refl

  last_one : (item : Option N) → (grown_last same s item).count ≡ s.count + 1
  last_one None = refl
  last_one (Some n) = refl

  -- one more
  pub one_more : (kind : List ℕ) (item : Option N) → (registered same kind s item).count ≡ s.count + 1
  one_more kind item = of (last_counts kind)
    where
      of : (b : Bool) → (if b then grown_last same s item else grown same s item).count ≡ s.count + 1
      of true = last_one item
      of false = first_one item
