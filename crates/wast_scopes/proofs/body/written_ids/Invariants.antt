use Rattle.std.proofs.Common.{◌≡◌, map, take}
use Rattle.wast_scopes.proofs.body.written_ids.Given as goal

abbrev pub invariant-loop-param : goal.invariant-loop-param
invariant-loop-param l = l.ids.items ≡ map (λ p. p.0) (take l.param-index l.params)
