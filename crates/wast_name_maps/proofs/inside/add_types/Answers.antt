use Rattle.std.proofs.lemmas.Result.{err_from_is_err_and}
use Rattle.wast_core_types.specs.TypeViews.{item_tree as type_tree}
use Rattle.wast_name_maps.specs.Gathered.{type_groups}
use Rattle.wast_name_maps.specs.Kinds.{inside_view}
use Rattle.wast_spaces.proofs.Written.{viewed}
use Rattle.wast_name_maps.proofs.Joining.{joined_all, joined_more, unfit_at}
use Rattle.wast_name_maps.proofs.Gathering.{item_groups}
use Rattle.wast_name_maps.proofs.inside.add_types.Goals as goal

pub returns-in_err-add_type : goal.returns-in_err-add_type
returns-in_err-add_type c =
    let p = err_from_is_err_and c.from_residual.result c.from_residual.ensures.1 in
    rw (p.1, p.2) (
    unfit_at (item_groups (inside_view c.args.kind)) c.args.groups.now c.loop-item.groups c.args.types.now c.loop-item.item-index c.item-item.result _ _ c.loop-item-test.true c.item-item.is
    (viewed type_tree (type_groups (inside_view c.args.kind)) c.args.types.now) c.loop-item.invariant c.in_err-add_type.ensures
    )

pub loop-item-preserved : goal.loop-item-preserved
loop-item-preserved c =
    joined_more (item_groups (inside_view c.args.kind)) c.args.groups.now c.loop-item.groups c.add_type.new.groups c.args.types.now c.loop-item.item-index c.item-item.result c.loop-item-test.true c.item-item.is
    c.loop-item.invariant c.in_ok-add_type.ensures

pub returns : goal.returns
returns c =
    joined_all (item_groups (inside_view c.args.kind)) c.args.groups.now c.loop-item.groups c.args.types.now c.loop-item.item-index _ c.loop-item-test.false (viewed type_tree (type_groups (inside_view c.args.kind)) c.args.types.now) c.loop-item.invariant
