use Rattle.wat_laws.proofs.RenamedExamples.{examples}
use Rattle.wat_laws.proofs.laws.renamed_examples.Goals as goal

pub returns : goal.returns
returns c = examples
