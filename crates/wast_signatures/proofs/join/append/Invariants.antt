use Rattle.std.proofs.Common.{◌≡◌, ◌++◌}
use Rattle.wast_signatures.proofs.join.append.Given as goal

abbrev pub invariant-loop-item : goal.invariant-loop-item
invariant-loop-item g l = l.all.items ≡ l.fn.all.items ++ l.yielded
