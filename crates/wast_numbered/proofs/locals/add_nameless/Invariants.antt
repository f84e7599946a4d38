use Rattle.std.proofs.Common.{◌≡◌, None, replicate}
use Rattle.wast_names.specs.Views.{space}
use Rattle.wast_numbered.specs.Place.{joined}
use Rattle.wast_numbered.proofs.locals.add_nameless.Given as goal

abbrev pub invariant-loop-number : goal.invariant-loop-number
invariant-loop-number l = space l.names ≡ joined (space l.fn.names) (replicate l._number None)
