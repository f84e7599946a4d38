use Rattle.std.proofs.Common.{inr, refl}
use Rattle.wast_names.proofs.namespace.resolve_error.Goals as goal

pub returns-in-Ok : goal.returns-in-Ok
returns-in-Ok c = inr (rw (c.new.ensures, c.in-Ok.ensures.ok, c.name-name.ensures, c.span.ensures) refl)
