use Rattle.std.proofs.lemmas.Result.{err_from_is_err_and}
use Rattle.wast_meaning.specs.Views.{space_view}
use Rattle.wast_imports.specs.ImportViews.{item_tree, member_name_tree}
use Rattle.wast_meaning.specs.Spaces.{bound_import}
use Rattle.wast_name_maps.proofs.Joining.{joined_all, joined_more, unfit_at}
use Rattle.wast_name_maps.proofs.Gathering.{names_of_each, each_bound}
use Rattle.wast_name_maps.proofs.items.add_for_each.Goals as goal

pub returns-in_err-add_import : goal.returns-in_err-add_import
returns-in_err-add_import c =
    let p = err_from_is_err_and c.from_residual.result c.from_residual.ensures.1 in
    rw (p.1, p.2) (
    unfit_at (names_of_each (space_view c.args.space) c.args.sig.now) c.args.names.now c.loop-member.names c.args.members.now c.loop-member._member-index c._member-item.result _ _ c.loop-member-test.true c._member-item.is
    (each_bound (space_view c.args.space) member_name_tree (λ name. bound_import (item_tree c.args.sig.now)) c.args.members.now) c.loop-member.invariant c.in_err-add_import.ensures
    )

pub loop-member-preserved : goal.loop-member-preserved
loop-member-preserved c =
    joined_more (names_of_each (space_view c.args.space) c.args.sig.now) c.args.names.now c.loop-member.names c.add_import.new.names c.args.members.now c.loop-member._member-index c._member-item.result c.loop-member-test.true c._member-item.is
    c.loop-member.invariant c.in_ok-add_import.ensures

pub returns : goal.returns
returns c =
    joined_all (names_of_each (space_view c.args.space) c.args.sig.now) c.args.names.now c.loop-member.names c.args.members.now c.loop-member._member-index _ c.loop-member-test.false (each_bound (space_view c.args.space) member_name_tree (λ name. bound_import (item_tree c.args.sig.now)) c.args.members.now) c.loop-member.invariant
