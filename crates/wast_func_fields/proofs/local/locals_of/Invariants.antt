use Rattle.std.proofs.Common.{◌≡◌, map}
use Rattle.wast_signatures.specs.SignatureViews.{param_tree}
use Rattle.wast_func_fields.specs.FuncViews.{local_tree}
use Rattle.wast_func_fields.proofs.local.locals_of.Given as goal

abbrev pub invariant-loop-id : goal.invariant-loop-id
invariant-loop-id l = map local_tree l.locals.items ≡ map param_tree l.yielded
