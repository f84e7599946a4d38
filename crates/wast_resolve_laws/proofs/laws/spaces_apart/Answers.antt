use Rattle.wast_grammar.specs.Spelling.{same_name}
use Rattle.wast_resolve_laws.proofs.WalkedFields as made
use Rattle.wast_resolve_laws.proofs.laws.spaces_apart.Goals as goal

pub returns : goal.returns
returns c = record {
  space = made.space_apart same_name;
  met = λ fields. (made.items_met_apart same_name fields, made.items_met_together same_name fields);
}
