use Rattle.std.proofs.lemmas.Result.{err_from_is_err_and}
use Rattle.wast_meaning.specs.Views.{space_view}
use Rattle.wast_core_types.specs.TypeViews.{item_tree as type_tree}
use Rattle.wast_meaning.specs.Spaces.{bound_type}
use Rattle.wast_name_maps.proofs.Joining.{joined_all, joined_more, unfit_at}
use Rattle.wast_name_maps.proofs.Gathering.{type_names, each_bound}
use Rattle.wast_name_maps.proofs.items.add_types.Goals as goal

pub returns-in_err-add_type : goal.returns-in_err-add_type
returns-in_err-add_type c =
    let p = err_from_is_err_and c.from_residual.result c.from_residual.ensures.1 in
    rw (p.1, p.2) (
    unfit_at (type_names (space_view c.args.space)) c.args.names.now c.loop-item.names c.args.types.now c.loop-item.item-index c.item-item.result _ _ c.loop-item-test.true c.item-item.is
    (each_bound (space_view c.args.space) type_tree bound_type c.args.types.now) c.loop-item.invariant c.in_err-add_type.ensures
    )

pub loop-item-preserved : goal.loop-item-preserved
loop-item-preserved c =
    joined_more (type_names (space_view c.args.space)) c.args.names.now c.loop-item.names c.add_type.new.names c.args.types.now c.loop-item.item-index c.item-item.result c.loop-item-test.true c.item-item.is
    c.loop-item.invariant c.in_ok-add_type.ensures

pub returns : goal.returns
returns c =
    joined_all (type_names (space_view c.args.space)) c.args.names.now c.loop-item.names c.args.types.now c.loop-item.item-index _ c.loop-item-test.false (each_bound (space_view c.args.space) type_tree bound_type c.args.types.now) c.loop-item.invariant
