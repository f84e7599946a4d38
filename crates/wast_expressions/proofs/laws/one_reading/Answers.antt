use Rattle.wast_expressions.proofs.ExpressionLaws.{one_reading}
use Rattle.wast_expressions.proofs.laws.one_reading.Goals as goal

pub returns : goal.returns
returns g c = let T = g.I.Operation in one_reading T.syntax T.heads c.lawful.ensures c.heeds.ensures
