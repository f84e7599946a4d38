use Rattle.std.proofs.lemmas.Result.{err_from_is_err_and}
use Rattle.wast_meaning.specs.Views.{space_view}
use Rattle.wast_name_maps.proofs.Joining.{joined_all, joined_more, unfit_at}
use Rattle.wast_name_maps.proofs.Gathering.{field_names, fields_bound}
use Rattle.wast_name_maps.proofs.items.add_fields.Goals as goal

pub returns-in_err-add_field : goal.returns-in_err-add_field
returns-in_err-add_field c =
    let p = err_from_is_err_and c.from_residual.result c.from_residual.ensures.1 in
    rw (p.1, p.2) (
    unfit_at (field_names (space_view c.args.space)) c.args.names.now c.loop-field.names c.args.fields.now c.loop-field.field-index c.field-item.result _ _ c.loop-field-test.true c.field-item.is
    (fields_bound (space_view c.args.space) c.args.fields.now) c.loop-field.invariant c.in_err-add_field.ensures
    )

pub loop-field-preserved : goal.loop-field-preserved
loop-field-preserved c =
    joined_more (field_names (space_view c.args.space)) c.args.names.now c.loop-field.names c.add_field.new.names c.args.fields.now c.loop-field.field-index c.field-item.result c.loop-field-test.true c.field-item.is
    c.loop-field.invariant c.in_ok-add_field.ensures

pub returns : goal.returns
returns c =
    joined_all (field_names (space_view c.args.space)) c.args.names.now c.loop-field.names c.args.fields.now c.loop-field.field-index _ c.loop-field-test.false (fields_bound (space_view c.args.space) c.args.fields.now) c.loop-field.invariant
