use Rattle.wat_verdict.proofs.Verdict.{one_meaning}
use Rattle.wat_verdict.proofs.laws.one_meaning.Goals as goal

pub returns : goal.returns
returns c = one_meaning
