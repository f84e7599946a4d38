use Rattle.std.proofs.lemmas.Result.{err_from_is_err_and}
use Rattle.wast_name_maps.proofs.Joining.{joined_all, joined_more, unfit_at}
use Rattle.wast_name_maps.proofs.Gathering.{struct_names, struct_named}
use Rattle.wast_name_maps.proofs.types.add_fields.Goals as goal

pub returns-in_err-add_identified : goal.returns-in_err-add_identified
returns-in_err-add_identified c =
    let p = err_from_is_err_and c.from_residual.result c.from_residual.ensures.1 in
    rw (p.1, p.2) (
    unfit_at struct_names c.args.names.now c.loop-field.names c.args.fields.now c.loop-field.field-index c.field-item.result _ _ c.loop-field-test.true c.field-item.is
    (struct_named c.args.fields.now) c.loop-field.invariant c.in_err-add_identified.ensures
    )

pub loop-field-preserved : goal.loop-field-preserved
loop-field-preserved c =
    joined_more struct_names c.args.names.now c.loop-field.names c.add_identified.new.names c.args.fields.now c.loop-field.field-index c.field-item.result c.loop-field-test.true c.field-item.is
    c.loop-field.invariant c.in_ok-add_identified.ensures

pub returns : goal.returns
returns c =
    joined_all struct_names c.args.names.now c.loop-field.names c.args.fields.now c.loop-field.field-index _ c.loop-field-test.false (struct_named c.args.fields.now) c.loop-field.invariant
