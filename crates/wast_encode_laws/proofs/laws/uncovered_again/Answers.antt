use Rattle.wast_grammar.specs.Spelling.{same_name}
use Rattle.wast_encode_laws.proofs.Covered as made
use Rattle.wast_encode_laws.proofs.laws.uncovered_again.Goals as goal

pub returns : goal.returns
returns c = λ fields naming other ordered. made.uncovered_again same_name naming fields ordered other
