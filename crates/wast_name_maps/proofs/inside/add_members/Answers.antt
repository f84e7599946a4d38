use Rattle.std.proofs.lemmas.Result.{err_from_is_err_and}
use Rattle.wast_name_maps.specs.Kinds.{inside_view}
use Rattle.wast_name_maps.proofs.Joining.{joined_all, joined_more, unfit_at}
use Rattle.wast_name_maps.proofs.Gathering.{member_groups, members_grouped}
use Rattle.wast_name_maps.proofs.inside.add_members.Goals as goal

pub returns-in_err-add_import : goal.returns-in_err-add_import
returns-in_err-add_import c =
    let p = err_from_is_err_and c.from_residual.result c.from_residual.ensures.1 in
    rw (p.1, p.2) (
    unfit_at (member_groups (inside_view c.args.kind)) c.args.groups.now c.loop-member.groups c.args.members.now c.loop-member.member-index c.member-item.result _ _ c.loop-member-test.true c.member-item.is
    (members_grouped (inside_view c.args.kind) c.args.members.now) c.loop-member.invariant c.in_err-add_import.ensures
    )

pub loop-member-preserved : goal.loop-member-preserved
loop-member-preserved c =
    joined_more (member_groups (inside_view c.args.kind)) c.args.groups.now c.loop-member.groups c.add_import.new.groups c.args.members.now c.loop-member.member-index c.member-item.result c.loop-member-test.true c.member-item.is
    c.loop-member.invariant c.in_ok-add_import.ensures

pub returns : goal.returns
returns c =
    joined_all (member_groups (inside_view c.args.kind)) c.args.groups.now c.loop-member.groups c.args.members.now c.loop-member.member-index _ c.loop-member-test.false (members_grouped (inside_view c.args.kind) c.args.members.now) c.loop-member.invariant
