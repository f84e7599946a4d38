-- Fields whose indices are numbers.
use Rattle.std.specs.Prelude.{Bool, List}
use Rattle.std.specs.List.{list_all}
use Rattle.wast_field_syntax.specs.FieldTree.{Field}
use Rattle.wast_meaning.specs.Mentions.{Mention, Uses, UsesInBlock, use_mentions, field_mentions}
use Rattle.wast_meaning.specs.Settled.{says_number}

module _ {N P : Type 0} where
  -- a use may have no index
  abbrev pub numbers_said : Mention N P → Bool
  numbers_said (Uses u) = list_all says_number (use_mentions u)
  numbers_said (UsesInBlock u) = list_all says_number (use_mentions u)
  numbers_said m = says_number m

  abbrev pub are_numbers : List (Field N P) → Bool
  are_numbers fs = list_all (λ f. list_all numbers_said (field_mentions f)) fs
