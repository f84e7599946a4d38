use Rattle.std.proofs.Common.{◌≡◌, Some, [], ◌∷◌, ◌++◌, map, take}
use Rattle.std.specs.Prelude.{option_map}
use Rattle.std.specs.List.{flat_map}
use Rattle.wast_implied.specs.Views.{implied_tree}
use Rattle.wast_names.specs.Views.{space}
use Rattle.wast_scopes.specs.Numbered.{numbered_sig}
use Rattle.wast_scopes.specs.Signatures.{signatures}
use Rattle.wast_scopes.proofs.signatures.Signatures.add_implied.Given as goal

abbrev pub invariant-loop-ty : goal.invariant-loop-ty
invariant-loop-ty l = signatures l.self ≡ signatures l.fn.self ++ map (option_map (numbered_sig (space l.types).look)) (flat_map (λ x. Some (implied_tree x).1 ∷ []) (take l.ty-index l.implied))
