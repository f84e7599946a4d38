use Rattle.std.proofs.Common.{◌≡◌, map, take}
use Rattle.wast_value_types.specs.ValueViews.{val_tree}
use Rattle.wast_implied.specs.Shapes.{value_of_key, value_shape}
use Rattle.wast_implied.proofs.key.keys_of_results.Given as goal

abbrev pub invariant-loop-ty : goal.invariant-loop-ty
invariant-loop-ty l = map value_of_key l.keys.items ≡ map value_shape (map val_tree (take l.ty-index l.results))
