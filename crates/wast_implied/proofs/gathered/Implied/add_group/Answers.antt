use Rattle.std.proofs.Common.{true}
use Rattle.wast_core_types.specs.TypeViews.{item_tree}
use Rattle.wast_implied.specs.Known.{after_written}
use Rattle.wast_implied.specs.Views.{known}
use Rattle.wast_implied.proofs.Steps.{step}
use Rattle.wast_implied.proofs.gathered.Implied.add_group.Goals as goal

pub loop-item-preserved : goal.loop-item-preserved
loop-item-preserved c =
    step (λ k t. after_written k (item_tree t, true)) (known c.args.self.now) (known c.loop-item.self) (known c.add_type.new.self) c.args.items.now c.loop-item.item-index c.item-item.result
    c.loop-item-test.true c.item-item.is c.loop-item.invariant c.in_ok-add_type.ensures
