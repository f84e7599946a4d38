use Rattle.wast_imports.specs.ImportViews.{member_tree}
use Rattle.wast_meaning.specs.Mentions.{extern_mentions}
use Rattle.wast_implied.specs.Known.{after_mentions}
use Rattle.wast_implied.specs.Views.{known}
use Rattle.wast_implied.proofs.Steps.{step, finish}
use Rattle.wast_implied.proofs.gathered.Implied.add_items.Goals as goal

pub loop-item-preserved : goal.loop-item-preserved
loop-item-preserved c =
    step (λ k x. after_mentions c.args.span k (extern_mentions (member_tree x).1.extern_type)) (known c.args.self.now) (known c.loop-item.self) (known c.add_item.new.self) c.args.items.now c.loop-item.item-index c.item-item.result
    c.loop-item-test.true c.item-item.is c.loop-item.invariant c.in_ok-add_item.ensures

pub returns : goal.returns
returns c = finish member_tree (λ i. extern_mentions i.1.extern_type) c.args.span (known c.args.self.now) (known c.loop-item.self) c.args.items.now c.loop-item.item-index c.loop-item-test.false c.loop-item.invariant
