use Rattle.wat_verdict.proofs.Alike.{renaming}
use Rattle.wat_verdict.proofs.laws.renaming.Goals as goal

pub returns : goal.returns
returns c = renaming
