use Rattle.std.proofs.Common.{◌≡◌, map, take}
use Rattle.wast_signatures.specs.SignatureViews.{param_tree}
use Rattle.wast_meaning.specs.Implied.{unnamed_local}
use Rattle.wast_implied.proofs.gathered.unnamed_params.Given as goal

abbrev pub invariant-loop-param : goal.invariant-loop-param
invariant-loop-param l = map param_tree l.copies.items ≡ map unnamed_local (map param_tree (take l.param-index l.params))
