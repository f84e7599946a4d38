-- Fields whose uses have their types and whose indices are numbers: where nothing stands inline, resolving them changes nothing.
use Rattle.std.specs.Prelude.{Bool, true, false, not, is_some, ◌&&◌, ◌||◌, List, Option, Some, None, unwrap_or}
use Rattle.std.specs.List.{list_all}
use Rattle.wast_parser.specs.Identifiers.{Reference, ByNumber, ByName}
use Rattle.wast_field_syntax.specs.TypeTree.{TypeUse}
use Rattle.wast_field_syntax.specs.FieldTree.{Field}
use Rattle.wast_meaning.specs.Mentions.{Mention, Refers, Member, Uses, UsesInBlock, use_mentions, field_mentions}
use Rattle.wast_meaning.specs.Implied.{no_sig, is_short}

module _ {N P : Type 0} where
  abbrev pub is_number : Reference N P → Bool
  is_number (ByNumber n p) = true
  is_number (ByName id) = false

  abbrev pub has_number : Option (Reference N P) → Bool
  has_number None = false
  has_number (Some i) = is_number i

  -- a short block has no type
  abbrev pub block_settled : TypeUse N P → Bool
  block_settled u = has_number u.index || (not (is_some u.index) && is_short (unwrap_or u.inline no_sig))

  abbrev pub says_number : Mention N P → Bool
  says_number (Refers s i) = is_number i
  says_number (Member t i) = is_number i
  says_number _ = true

  abbrev pub is_settled : Mention N P → Bool
  is_settled (Uses u) = has_number u.index && list_all says_number (use_mentions u)
  is_settled (UsesInBlock u) = block_settled u && list_all says_number (use_mentions u)
  is_settled m = says_number m

  abbrev pub are_settled : List (Field N P) → Bool
  are_settled fs = list_all (λ f. list_all is_settled (field_mentions f)) fs

  -- a use that needs a type has an index
  abbrev pub is_typed : Mention N P → Bool
  is_typed (Uses u) = is_some u.index
  is_typed (UsesInBlock u) = is_some u.index || is_short (unwrap_or u.inline no_sig)
  is_typed _ = true

  abbrev pub are_typed : List (Field N P) → Bool
  are_typed fs = list_all (λ f. list_all is_typed (field_mentions f)) fs
