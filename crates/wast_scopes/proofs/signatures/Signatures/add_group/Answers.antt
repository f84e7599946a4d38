use Rattle.std.proofs.Common.{[], ◌∷◌, true}
use Rattle.std.specs.Prelude.{option_map}
use Rattle.wast_core_types.specs.TypeViews.{item_tree}
use Rattle.wast_meaning.specs.Implied.{func_sig}
use Rattle.wast_names.specs.Views.{space}
use Rattle.wast_scopes.specs.Numbered.{numbered_sig}
use Rattle.wast_scopes.specs.Signatures.{func_type, signatures}
use Rattle.wast_scopes.proofs.Adds.{adds_more, adds_all, one_paired}
use Rattle.wast_scopes.proofs.signatures.Signatures.add_group.Goals as goal

pub loop-item-preserved : goal.loop-item-preserved
loop-item-preserved c =
    adds_more (option_map (numbered_sig (space c.args.types.now).look)) (λ x. func_sig (item_tree x).definition.comp.inner ∷ []) (signatures c.args.self.now) (signatures c.loop-item.self) (signatures c.add_type.new.self)
    c.args.items.now c.loop-item.item-index c.item-item.result c.loop-item-test.true c.item-item.is c.loop-item.invariant c.in_ok-add_type.ensures

pub returns : goal.returns
returns c =
    adds_all (option_map (numbered_sig (space c.args.types.now).look)) (λ x. func_sig (item_tree x).definition.comp.inner ∷ []) (signatures c.args.self.now) (signatures c.loop-item.self)
    c.args.items.now c.loop-item.item-index _ c.loop-item-test.false (one_paired func_type (λ t. (t, true)) item_tree c.args.items.now) c.loop-item.invariant
