use Rattle.wat_verdict.proofs.EqualBinaries.{equal_binaries}
use Rattle.wat_verdict.proofs.laws.equal_binaries.Goals as goal

pub returns : goal.returns
returns c = equal_binaries
