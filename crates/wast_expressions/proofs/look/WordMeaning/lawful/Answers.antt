use Rattle.wast_expressions.proofs.Peeks.{any_word_laws}
use Rattle.wast_expressions.proofs.look.WordMeaning.lawful.Goals as goal

pub returns : goal.returns
returns g c = any_word_laws g.I.Operation.heads
