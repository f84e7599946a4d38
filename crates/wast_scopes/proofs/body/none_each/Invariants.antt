use Rattle.std.proofs.Common.{◌≡◌, None, map, take}
use Rattle.std.specs.Prelude.{option_map}
use Rattle.wast_parser.specs.Identifiers.{identifier_tree}
use Rattle.wast_scopes.specs.NumberedViews.{value_of_numbered}
use Rattle.wast_scopes.proofs.body.none_each.Given as goal

abbrev pub invariant-loop-param : goal.invariant-loop-param
invariant-loop-param l = map (option_map identifier_tree) l.ids.items ≡ map (λ p. None) (map value_of_numbered (take l._param-index l.params))
