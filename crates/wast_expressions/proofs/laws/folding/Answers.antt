use Rattle.wast_expressions.proofs.Folds.{folding}
use Rattle.wast_expressions.proofs.laws.folding.Goals as goal

pub returns : goal.returns
returns g c = let T = g.I.Operation in folding T.syntax T.heads T.made c.lawful.ensures c.heeds.ensures c.spelled.ensures
