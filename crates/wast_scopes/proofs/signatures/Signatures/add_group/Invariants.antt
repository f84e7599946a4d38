use Rattle.std.proofs.Common.{◌≡◌, [], ◌∷◌, ◌++◌, map, take}
use Rattle.std.specs.Prelude.{option_map}
use Rattle.std.specs.List.{flat_map}
use Rattle.wast_core_types.specs.TypeViews.{item_tree}
use Rattle.wast_meaning.specs.Implied.{func_sig}
use Rattle.wast_names.specs.Views.{space}
use Rattle.wast_scopes.specs.Numbered.{numbered_sig}
use Rattle.wast_scopes.specs.Signatures.{signatures}
use Rattle.wast_scopes.proofs.signatures.Signatures.add_group.Given as goal

abbrev pub invariant-loop-item : goal.invariant-loop-item
invariant-loop-item l = signatures l.self ≡ signatures l.fn.self ++ map (option_map (numbered_sig (space l.types).look)) (flat_map (λ x. func_sig (item_tree x).definition.comp.inner ∷ []) (take l.item-index l.items))
