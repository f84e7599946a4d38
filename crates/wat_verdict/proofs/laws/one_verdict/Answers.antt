use Rattle.wat_verdict.proofs.Verdict.{one_verdict}
use Rattle.wat_verdict.proofs.laws.one_verdict.Goals as goal

pub returns : goal.returns
returns c = one_verdict
