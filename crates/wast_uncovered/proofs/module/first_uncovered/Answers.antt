use Rattle.std.proofs.Common.{Some, sym, ◌∙◌, ap}
use Rattle.wast_core.specs.ModuleFieldViews.{field_tree}
use Rattle.wast_uncovered.proofs.EachField.{each_goes, each_ends, each_stops}
use Rattle.wast_uncovered.proofs.module.first_uncovered.Goals as goal

pub loop-field-preserved : goal.loop-field-preserved
loop-field-preserved c = each_goes field_tree _ _ _ c.loop-field-test.true c.field-item.is (sym c.in_default.ensures) c.loop-field.invariant

pub returns : goal.returns
returns c = each_ends field_tree _ _ c.loop-field-test.false c.loop-field.invariant

pub returns-in-Some : goal.returns-in-Some
returns-in-Some c =
    ap (λ place. Some (place, c.in-Some.form.now)) c.span.ensures
    ∙ each_stops field_tree _ _ _ _ c.loop-field-test.true c.field-item.is (sym c.in-Some.ensures) c.loop-field.invariant
