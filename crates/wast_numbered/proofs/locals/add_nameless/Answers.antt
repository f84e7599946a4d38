use Rattle.wast_names.specs.Views.{space}
use Rattle.wast_numbered.proofs.Joined.{nameless_more}
use Rattle.wast_numbered.proofs.locals.add_nameless.Goals as goal

pub loop-number-preserved : goal.loop-number-preserved
loop-number-preserved c = nameless_more (space c.args.names.now) (space c.loop-number.names) (space c.add_one.new.names) c.loop-number._number c.loop-number.invariant c.in-Ok.ensures
