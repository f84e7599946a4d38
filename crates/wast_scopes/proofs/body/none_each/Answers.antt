use Rattle.wast_scopes.proofs.Ids.{none_more}
use Rattle.wast_scopes.proofs.body.none_each.Goals as goal

pub loop-param-preserved : goal.loop-param-preserved
loop-param-preserved c = none_more c.loop-param.ids.items c.push.new.self.items c.args.params.now c.loop-param._param-index c.loop-param-test.true c.loop-param.invariant c.in_ok-push.ensures.items
