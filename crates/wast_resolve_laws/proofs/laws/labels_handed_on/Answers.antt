use Rattle.wast_grammar.specs.Spelling.{same_name}
use Rattle.wast_resolve_laws.proofs.WalkedFields as made
use Rattle.wast_resolve_laws.proofs.laws.labels_handed_on.Goals as goal

pub returns : goal.returns
returns c = record { asked = made.demands_handed_on same_name; numbers = made.numbers_handed_on same_name }
