use Rattle.std.proofs.Common.{◌≡◌, ◌∷◌}
use Rattle.wast_core.proofs.text.with_first.Given as goal

abbrev pub invariant-loop-item : goal.invariant-loop-item
invariant-loop-item g l = l.all.items ≡ l.fn.first ∷ l.yielded
