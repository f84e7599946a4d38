use Rattle.std.proofs.Common.{◌≡◌, map, take}
use Rattle.wast_value_types.specs.ValueViews.{val_tree}
use Rattle.wast_names.specs.Views.{space}
use Rattle.wast_scopes.specs.Numbered.{numbered_value}
use Rattle.wast_scopes.specs.NumberedViews.{value_of_numbered}
use Rattle.wast_scopes.proofs.numbered.numbered_results.Given as goal

abbrev pub invariant-loop-ty : goal.invariant-loop-ty
invariant-loop-ty l = map value_of_numbered l.numbered.items ≡ map (numbered_value (space l.types).look) (map val_tree (take l.ty-index l.results))
