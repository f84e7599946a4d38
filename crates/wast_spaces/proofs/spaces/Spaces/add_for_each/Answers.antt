use Rattle.std.proofs.Common.{subst}
use Rattle.std.proofs.lemmas.Result.{err_from_is_err_and}
use Rattle.wast_names.specs.Demand.{Refuses}
use Rattle.wast_imports.specs.ImportViews.{item_tree, member_name_tree}
use Rattle.wast_meaning.specs.Spaces.{bound_import}
use Rattle.wast_spaces.specs.Joins.{Joined, joining}
use Rattle.wast_spaces.specs.Views.{spaces_of}
use Rattle.wast_spaces.proofs.Joins.{joined_all, joined_more, refused_at}
use Rattle.wast_spaces.proofs.Written.{each_one, items_of_each}
use Rattle.wast_spaces.proofs.spaces.Spaces.add_for_each.Goals as goal

pub returns-in_err-add_import : goal.returns-in_err-add_import
returns-in_err-add_import c =
    let old = c.args.self.now in
    let p = err_from_is_err_and c.from_residual.result c.from_residual.ensures.1 in
    rw (p.1, p.2) (
    subst (λ bs. Refuses (joining (spaces_of old) bs) c.in_err-add_import.field-0.0) (each_one member_name_tree (λ name. bound_import (item_tree c.args.sig.now)) c.args.members.now)
    (refused_at (items_of_each c.args.sig.now) old c.loop-member.self c.args.members.now c.loop-member._member-index c._member-item.result _ c.loop-member-test.true c._member-item.is c.loop-member.invariant c.in_err-add_import.ensures)
    )

pub loop-member-preserved : goal.loop-member-preserved
loop-member-preserved c =
    joined_more (items_of_each c.args.sig.now) c.args.self.now c.loop-member.self c.add_import.new.self c.args.members.now c.loop-member._member-index c._member-item.result c.loop-member-test.true c._member-item.is
    c.loop-member.invariant c.in_ok-add_import.ensures

pub returns : goal.returns
returns c =
    subst (Joined c.args.self.now c.loop-member.self) (each_one member_name_tree (λ name. bound_import (item_tree c.args.sig.now)) c.args.members.now)
    (joined_all (items_of_each c.args.sig.now) c.args.self.now c.loop-member.self c.args.members.now c.loop-member._member-index c.loop-member-test.false c.loop-member.invariant)
