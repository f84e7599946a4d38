use Rattle.wast_grammar.specs.Spelling.{same_name}
use Rattle.wast_encode_laws.proofs.Covered as made
use Rattle.wast_encode_laws.proofs.laws.covered_when_resolved.Goals as goal

pub returns : goal.returns
returns c = λ fields naming ordered none. made.covered same_name naming fields ordered none
