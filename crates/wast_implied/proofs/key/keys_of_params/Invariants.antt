use Rattle.std.proofs.Common.{◌≡◌, map, take}
use Rattle.wast_signatures.specs.SignatureViews.{param_tree}
use Rattle.wast_implied.specs.Shapes.{value_of_key, value_shape}
use Rattle.wast_implied.proofs.key.keys_of_params.Given as goal

abbrev pub invariant-loop-param : goal.invariant-loop-param
invariant-loop-param l = map value_of_key l.keys.items ≡ map (λ p. value_shape p.val_type) (map param_tree (take l.param-index l.params))
