use Rattle.wat_laws.proofs.WrittenExamples.{examples}
use Rattle.wat_laws.proofs.laws.written_examples.Goals as goal

pub returns : goal.returns
returns c = examples
