use Rattle.std.proofs.Common.{subst}
use Rattle.std.proofs.lemmas.Result.{err_from_is_err_and}
use Rattle.wast_names.specs.Demand.{Refuses}
use Rattle.wast_module_fields.specs.ModuleFieldViews.{field_tree}
use Rattle.wast_meaning.specs.Spaces.{items}
use Rattle.wast_spaces.specs.Joins.{Joined, joining}
use Rattle.wast_spaces.specs.Views.{spaces_of}
use Rattle.wast_spaces.proofs.Joins.{joined_all, joined_more, refused_at}
use Rattle.wast_spaces.proofs.Fields.{field_items}
use Rattle.wast_spaces.proofs.Written.{viewed}
use Rattle.wast_spaces.proofs.spaces.Spaces.add_fields.Goals as goal

pub returns-in_err-add_field : goal.returns-in_err-add_field
returns-in_err-add_field c =
    let old = c.args.self.now in
    let p = err_from_is_err_and c.from_residual.result c.from_residual.ensures.1 in
    rw (p.1, p.2) (
    subst (λ bs. Refuses (joining (spaces_of old) bs) c.in_err-add_field.field-0.0) (viewed field_tree items c.args.fields.now)
    (refused_at field_items old c.loop-field.self c.args.fields.now c.loop-field.field-index c.field-item.result _ c.loop-field-test.true c.field-item.is c.loop-field.invariant c.in_err-add_field.ensures)
    )

pub loop-field-preserved : goal.loop-field-preserved
loop-field-preserved c =
    joined_more field_items c.args.self.now c.loop-field.self c.add_field.new.self c.args.fields.now c.loop-field.field-index c.field-item.result c.loop-field-test.true c.field-item.is
    c.loop-field.invariant c.in_ok-add_field.ensures

pub returns : goal.returns
returns c =
    subst (Joined c.args.self.now c.loop-field.self) (viewed field_tree items c.args.fields.now)
    (joined_all field_items c.args.self.now c.loop-field.self c.args.fields.now c.loop-field.field-index c.loop-field-test.false c.loop-field.invariant)
