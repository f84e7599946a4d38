use Rattle.wast_expressions.proofs.Hinted.{hints_rise}
use Rattle.wast_expressions.proofs.laws.hints_rise.Goals as goal

pub returns : goal.returns
returns g c = hints_rise g.I.Operation.Tree
