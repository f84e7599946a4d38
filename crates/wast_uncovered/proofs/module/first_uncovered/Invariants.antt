use Rattle.wast_core.specs.ModuleFieldViews.{field_tree}
use Rattle.wast_uncovered.proofs.EachField.{Left}
use Rattle.wast_uncovered.proofs.module.first_uncovered.Given as goal

abbrev pub invariant-loop-field : goal.invariant-loop-field
invariant-loop-field l = Left field_tree l.fields l.field-index
