use Rattle.std.proofs.Common.{inr, refl}
use Rattle.wast_spaces.proofs.order.import_after.Goals as goal

pub returns-in-Ok : goal.returns-in-Ok
returns-in-Ok c = inr (rw (c.new.ensures, c.in-Ok.ensures.ok, c.definition_word-word.ensures) refl)
