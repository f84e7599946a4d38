use Rattle.wast_uncovered.proofs.First.{Left}
use Rattle.wast_uncovered.proofs.form.first_in.Given as goal

abbrev pub invariant-loop-item : goal.invariant-loop-item
invariant-loop-item g l = Left g.T.HasForms.tree g.T.HasForms.forms l.items l.item-index
