use Rattle.std.proofs.Common.{◌≡◌, map, take}
use Rattle.wast_signatures.specs.SignatureViews.{param_tree}
use Rattle.wast_names.specs.Views.{space}
use Rattle.wast_scopes.specs.Numbered.{numbered_value}
use Rattle.wast_scopes.specs.NumberedViews.{value_of_numbered}
use Rattle.wast_scopes.proofs.numbered.numbered_params.Given as goal

abbrev pub invariant-loop-param : goal.invariant-loop-param
invariant-loop-param l = map value_of_numbered l.numbered.items ≡ map (λ p. numbered_value (space l.types).look p.val_type) (map param_tree (take l.param-index l.params))
