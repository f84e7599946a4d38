use Rattle.std.proofs.Common.{Ok, refl}
use Rattle.std.proofs.KnownBytes.{Keeps-refl}
use Rattle.wat.proofs.program.run_program.Goals as goal

pub returns-in-Ok : goal.returns-in-Ok
returns-in-Ok g c = (c.run_into.new.input.items, Ok c.in-Ok.field-0, c.in-Ok.ensures.runs, (refl, Keeps-refl _), c.in-Ok.ensures.reader_failures, c.in-Ok.ensures.writer_failures)
