use Rattle.std.proofs.Common.{◌≡◌, map, take}
use Rattle.wast_signatures.specs.SignatureViews.{param_tree}
use Rattle.wast_expanded.proofs.implied_field.copy_params.Given as goal

abbrev pub invariant-loop-param : goal.invariant-loop-param
invariant-loop-param l = map param_tree l.copies.items ≡ map param_tree (take l.param-index l.params)
