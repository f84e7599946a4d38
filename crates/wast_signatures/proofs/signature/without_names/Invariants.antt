use Rattle.std.proofs.Common.{◌≡◌, map}
use Rattle.wast_value_types.specs.ValueViews.{val_tree}
use Rattle.wast_signatures.specs.TypeSyntax.{unnamed}
use Rattle.wast_signatures.specs.SignatureViews.{param_tree}
use Rattle.wast_signatures.proofs.signature.without_names.Given as goal

abbrev pub invariant-loop-ty : goal.invariant-loop-ty
invariant-loop-ty l = map param_tree l.params.items ≡ map unnamed (map val_tree l.yielded)
