use Rattle.wast_expressions.proofs.ExpressionLaws.{hint_body_laws}
use Rattle.wast_expressions.proofs.hint.HintBodyMeaning.lawful.Goals as goal

pub returns : goal.returns
returns c = hint_body_laws
