use Rattle.std.specs.Prelude.{codes}
use Rattle.wast_grammar.proofs.GrammarLaws.{led_laws}
use Rattle.wast_expressions.specs.Expressions.{expression}
use Rattle.wast_expressions.proofs.ExpressionLaws.{expression_laws}
use Rattle.wast_expressions.proofs.data.OffsetBodyMeaning.lawful.Goals as goal

pub returns : goal.returns
returns g c = let T = g.I.Operation in led_laws (codes "offset") (expression T.syntax T.heads T.made) (expression_laws T.syntax T.heads c.lawful.ensures c.heeds.ensures T.made)
