use Rattle.std.proofs.Common.{◌≡◌}
use Rattle.std.specs.List.{flat_map}
use Rattle.wast_signatures.proofs.join.join.Given as goal

abbrev pub invariant-loop-group : goal.invariant-loop-group
invariant-loop-group g l = l.all.items ≡ flat_map (λ x. x.value.items.items) l.yielded
