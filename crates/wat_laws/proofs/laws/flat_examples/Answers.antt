use Rattle.wat_laws.proofs.FlatExamples.{examples}
use Rattle.wat_laws.proofs.laws.flat_examples.Goals as goal

pub returns : goal.returns
returns c = examples
