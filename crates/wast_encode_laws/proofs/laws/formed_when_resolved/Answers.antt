use Rattle.wast_grammar.specs.Spelling.{same_name}
use Rattle.wast_encode_laws.proofs.Formed as made
use Rattle.wast_encode_laws.proofs.Starts as starts
use Rattle.wast_encode_laws.proofs.laws.formed_when_resolved.Goals as goal

pub returns : goal.returns
returns c = record {
  formed = λ fields is_made naming none. made.formed same_name is_made naming fields none;
  start = λ fields is_made naming none. starts.one_start same_name is_made naming fields none;
}
