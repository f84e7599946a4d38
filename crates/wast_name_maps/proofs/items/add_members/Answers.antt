use Rattle.std.proofs.lemmas.Result.{err_from_is_err_and}
use Rattle.wast_meaning.specs.Views.{space_view}
use Rattle.wast_imports.specs.ImportViews.{member_tree}
use Rattle.wast_meaning.specs.Spaces.{bound_import}
use Rattle.wast_name_maps.proofs.Joining.{joined_all, joined_more, unfit_at}
use Rattle.wast_name_maps.proofs.Gathering.{member_names, each_bound}
use Rattle.wast_name_maps.proofs.items.add_members.Goals as goal

pub returns-in_err-add_import : goal.returns-in_err-add_import
returns-in_err-add_import c =
    let p = err_from_is_err_and c.from_residual.result c.from_residual.ensures.1 in
    rw (p.1, p.2) (
    unfit_at (member_names (space_view c.args.space)) c.args.names.now c.loop-member.names c.args.members.now c.loop-member.member-index c.member-item.result _ _ c.loop-member-test.true c.member-item.is
    (each_bound (space_view c.args.space) member_tree (λ i. bound_import i.1) c.args.members.now) c.loop-member.invariant c.in_err-add_import.ensures
    )

pub loop-member-preserved : goal.loop-member-preserved
loop-member-preserved c =
    joined_more (member_names (space_view c.args.space)) c.args.names.now c.loop-member.names c.add_import.new.names c.args.members.now c.loop-member.member-index c.member-item.result c.loop-member-test.true c.member-item.is
    c.loop-member.invariant c.in_ok-add_import.ensures

pub returns : goal.returns
returns c =
    joined_all (member_names (space_view c.args.space)) c.args.names.now c.loop-member.names c.args.members.now c.loop-member.member-index _ c.loop-member-test.false (each_bound (space_view c.args.space) member_tree (λ i. bound_import i.1) c.args.members.now) c.loop-member.invariant
