use Rattle.std.proofs.Common.{◌≡◌, map, take}
use Rattle.wast_module_fields.specs.FuncViews.{local_tree}
use Rattle.wast_names.specs.Views.{space}
use Rattle.wast_numbered.specs.Place.{joined}
use Rattle.wast_numbered.proofs.locals.add_locals.Given as goal

abbrev pub invariant-loop-local : goal.invariant-loop-local
invariant-loop-local l = space l.names ≡ joined (space l.fn.names) (map (λ x. (local_tree x).id) (take l.local-index l.locals))
