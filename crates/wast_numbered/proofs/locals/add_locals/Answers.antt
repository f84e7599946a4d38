use Rattle.wast_module_fields.specs.FuncViews.{local_tree}
use Rattle.wast_names.specs.Views.{space}
use Rattle.wast_numbered.proofs.Joined.{joined_more, joined_all}
use Rattle.wast_numbered.proofs.locals.add_locals.Goals as goal

pub loop-local-preserved : goal.loop-local-preserved
loop-local-preserved c =
    joined_more (λ x. (local_tree x).id) (space c.args.names.now) (space c.loop-local.names) (space c.add.new.names) c.args.locals.now c.loop-local.local-index c.local-item.result
    c.loop-local-test.true c.local-item.is c.loop-local.invariant c.in-Ok.ensures

pub returns : goal.returns
returns c =
    joined_all (λ l. l.id) local_tree (space c.args.names.now) (space c.loop-local.names) c.args.locals.now c.loop-local.local-index c.loop-local-test.false c.loop-local.invariant
