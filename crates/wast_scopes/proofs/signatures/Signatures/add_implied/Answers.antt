use Rattle.std.proofs.Common.{Some, [], ◌∷◌, true}
use Rattle.std.specs.Prelude.{option_map}
use Rattle.wast_implied.specs.Views.{implied_tree}
use Rattle.wast_names.specs.Views.{space}
use Rattle.wast_scopes.specs.Numbered.{numbered_sig}
use Rattle.wast_scopes.specs.Signatures.{signatures}
use Rattle.wast_scopes.proofs.Adds.{adds_more, adds_all, one_each}
use Rattle.wast_scopes.proofs.signatures.Signatures.add_implied.Goals as goal

pub loop-ty-preserved : goal.loop-ty-preserved
loop-ty-preserved c =
    adds_more (option_map (numbered_sig (space c.args.types.now).look)) (λ x. Some (implied_tree x).1 ∷ []) (signatures c.args.self.now) (signatures c.loop-ty.self) (signatures c.add_signature.new.self)
    c.args.implied.now c.loop-ty.ty-index c.ty-item.result c.loop-ty-test.true c.ty-item.is c.loop-ty.invariant c.in_ok-add_signature.ensures

pub returns : goal.returns
returns c =
    adds_all (option_map (numbered_sig (space c.args.types.now).look)) (λ x. Some (implied_tree x).1 ∷ []) (signatures c.args.self.now) (signatures c.loop-ty.self)
    c.args.implied.now c.loop-ty.ty-index _ c.loop-ty-test.false (one_each (λ u. Some u.1) implied_tree c.args.implied.now) c.loop-ty.invariant
