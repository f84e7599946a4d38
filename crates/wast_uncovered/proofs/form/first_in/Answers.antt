use Rattle.std.proofs.Common.{sym}
use Rattle.wast_uncovered.proofs.First.{each_goes, each_ends, each_stops}
use Rattle.wast_uncovered.proofs.form.first_in.Goals as goal

pub loop-item-preserved : goal.loop-item-preserved
loop-item-preserved g c = each_goes g.T.HasForms.tree g.T.HasForms.forms _ _ _ c.loop-item-test.true c.item-item.is (sym c.in_default.ensures) c.loop-item.invariant

pub returns : goal.returns
returns g c = each_ends g.T.HasForms.tree g.T.HasForms.forms _ _ c.loop-item-test.false c.loop-item.invariant

pub returns-in-Some : goal.returns-in-Some
returns-in-Some g c = each_stops g.T.HasForms.tree g.T.HasForms.forms _ _ _ _ c.loop-item-test.true c.item-item.is (sym c.in-Some.ensures) c.loop-item.invariant
