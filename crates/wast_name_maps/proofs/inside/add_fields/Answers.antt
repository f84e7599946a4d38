use Rattle.std.proofs.lemmas.Result.{err_from_is_err_and}
use Rattle.wast_module_fields.specs.ModuleFieldViews.{field_tree}
use Rattle.wast_name_maps.specs.Gathered.{field_groups}
use Rattle.wast_name_maps.specs.Kinds.{inside_view}
use Rattle.wast_spaces.proofs.Written.{viewed}
use Rattle.wast_name_maps.proofs.Joining.{joined_all, joined_more, unfit_at}
use Rattle.wast_name_maps.proofs.Gathering.{code_groups}
use Rattle.wast_name_maps.proofs.inside.add_fields.Goals as goal

pub returns-in_err-add_field : goal.returns-in_err-add_field
returns-in_err-add_field c =
    let p = err_from_is_err_and c.from_residual.result c.from_residual.ensures.1 in
    rw (p.1, p.2) (
    unfit_at (code_groups (inside_view c.args.kind) c.args.counts.now) c.args.groups.now c.loop-field.groups c.args.fields.now c.loop-field.field-index c.field-item.result _ _ c.loop-field-test.true c.field-item.is
    (viewed field_tree (field_groups (inside_view c.args.kind) c.args.counts.now) c.args.fields.now) c.loop-field.invariant c.in_err-add_field.ensures
    )

pub loop-field-preserved : goal.loop-field-preserved
loop-field-preserved c =
    joined_more (code_groups (inside_view c.args.kind) c.args.counts.now) c.args.groups.now c.loop-field.groups c.add_field.new.groups c.args.fields.now c.loop-field.field-index c.field-item.result c.loop-field-test.true c.field-item.is
    c.loop-field.invariant c.in_ok-add_field.ensures

pub returns : goal.returns
returns c =
    joined_all (code_groups (inside_view c.args.kind) c.args.counts.now) c.args.groups.now c.loop-field.groups c.args.fields.now c.loop-field.field-index _ c.loop-field-test.false (viewed field_tree (field_groups (inside_view c.args.kind) c.args.counts.now) c.args.fields.now) c.loop-field.invariant
