use Rattle.std.proofs.Common.{option_map}
use Rattle.wast_parser.specs.Identifiers.{identifier_tree}
use Rattle.wast_signatures.specs.SignatureViews.{name_tree}
use Rattle.wast_encode_again.proofs.Again.{answered, stays_left}
use Rattle.wast_encode_again.proofs.laws.encoded_again.Goals as goal

pub returns : goal.returns
returns c = λ m counter other formed met. (
  answered counter other m.span (option_map identifier_tree m.id) (option_map name_tree m.name) m.refusal m.kind formed met,
  stays_left counter other m.span (option_map identifier_tree m.id) (option_map name_tree m.name) m.refusal m.kind formed met,
)
