use Rattle.std.proofs.Common.{◌≡◌, ◌++◌, map, take}
use Rattle.wast_scopes.proofs.body.add_locals.Given as goal

abbrev pub invariant-loop-local : goal.invariant-loop-local
invariant-loop-local l = l.ids.items ≡ l.fn.ids.items ++ map (λ x. x.id) (take l.local-index l.locals)
