use Rattle.std.proofs.Common.{subst}
use Rattle.std.proofs.lemmas.Result.{err_from_is_err_and}
use Rattle.wast_names.specs.Demand.{Refuses}
use Rattle.wast_imports.specs.ImportViews.{member_tree}
use Rattle.wast_meaning.specs.Spaces.{bound_import}
use Rattle.wast_spaces.specs.Joins.{Joined, joining}
use Rattle.wast_spaces.specs.Views.{spaces_of}
use Rattle.wast_spaces.proofs.Joins.{joined_all, joined_more, refused_at}
use Rattle.wast_spaces.proofs.Written.{each_one, member_items}
use Rattle.wast_spaces.proofs.spaces.Spaces.add_members.Goals as goal

pub returns-in_err-add_import : goal.returns-in_err-add_import
returns-in_err-add_import c =
    let old = c.args.self.now in
    let p = err_from_is_err_and c.from_residual.result c.from_residual.ensures.1 in
    rw (p.1, p.2) (
    subst (λ bs. Refuses (joining (spaces_of old) bs) c.in_err-add_import.field-0.0) (each_one member_tree (λ i. bound_import i.1) c.args.members.now)
    (refused_at member_items old c.loop-member.self c.args.members.now c.loop-member.member-index c.member-item.result _ c.loop-member-test.true c.member-item.is c.loop-member.invariant c.in_err-add_import.ensures)
    )

pub loop-member-preserved : goal.loop-member-preserved
loop-member-preserved c =
    joined_more member_items c.args.self.now c.loop-member.self c.add_import.new.self c.args.members.now c.loop-member.member-index c.member-item.result c.loop-member-test.true c.member-item.is
    c.loop-member.invariant c.in_ok-add_import.ensures

pub returns : goal.returns
returns c =
    subst (Joined c.args.self.now c.loop-member.self) (each_one member_tree (λ i. bound_import i.1) c.args.members.now)
    (joined_all member_items c.args.self.now c.loop-member.self c.args.members.now c.loop-member.member-index c.loop-member-test.false c.loop-member.invariant)
