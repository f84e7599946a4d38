use Rattle.wast_encode_laws.proofs.Trees as made
use Rattle.wast_encode_laws.proofs.laws.trees_ordered.Goals as goal

pub returns : goal.returns
returns c = λ fields. made.trees_ordered fields
