use Rattle.wast_signatures.specs.SignatureViews.{param_tree}
use Rattle.wast_names.specs.Views.{space}
use Rattle.wast_numbered.proofs.Joined.{joined_more, joined_all}
use Rattle.wast_numbered.proofs.locals.add_written.Goals as goal

pub loop-param-preserved : goal.loop-param-preserved
loop-param-preserved c =
    joined_more (λ x. (param_tree x).id) (space c.args.names.now) (space c.loop-param.names) (space c.add.new.names) c.args.params.now c.loop-param.param-index c.param-item.result
    c.loop-param-test.true c.param-item.is c.loop-param.invariant c.in-Ok.ensures

pub returns : goal.returns
returns c =
    joined_all (λ p. p.id) param_tree (space c.args.names.now) (space c.loop-param.names) c.args.params.now c.loop-param.param-index c.loop-param-test.false c.loop-param.invariant
