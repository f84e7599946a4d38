use Rattle.std.proofs.Common.{◌≡◌, map, take}
use Rattle.wast_signatures.specs.SignatureViews.{param_tree}
use Rattle.wast_names.specs.Views.{space}
use Rattle.wast_numbered.specs.Place.{joined}
use Rattle.wast_numbered.proofs.locals.add_written.Given as goal

abbrev pub invariant-loop-param : goal.invariant-loop-param
invariant-loop-param l = space l.names ≡ joined (space l.fn.names) (map (λ x. (param_tree x).id) (take l.param-index l.params))
