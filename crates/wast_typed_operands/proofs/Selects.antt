-- The types of all groups of `select`.
use Rattle.std.proofs.Common.{◌≡◌, ℕ, false, List, [], ◌∷◌, map, length, Some, ap}
use Rattle.std.specs.Prelude.{◌==◌}
use Rattle.std.specs.List.{flat_map}
use Rattle.wast_signatures.specs.Tokens.{Name}
use Rattle.wast_signatures.specs.ValueViews.{val_tree}
use Rattle.wast_signatures.specs.declared.ValType.{ValType}
use Rattle.wast_signatures.proofs.Lists.{joined_trees}
use Rattle.wast_typed_operands.specs.TypedSyntax.{types_of}

pub types_joined : {G : Type 0} (items : G → List ValType) (gs : List G) → (length gs == 0) ≡ false → types_of {N = Name} {P = ℕ} (map (λ g. map val_tree (items g)) gs) ≡ Some (map val_tree (flat_map items gs))
types_joined items [] h = absurd (cc)
types_joined items (g ∷ gs) h = ap (λ ts. Some ts) (joined_trees val_tree items (g ∷ gs))
