use Rattle.wast_expressions.proofs.ExpressionLaws.{hint_laws}
use Rattle.wast_expressions.proofs.hint.HintValueMeaning.lawful.Goals as goal

pub returns : goal.returns
returns c = hint_laws
