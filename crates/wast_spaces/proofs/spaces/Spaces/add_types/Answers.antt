use Rattle.std.proofs.Common.{subst}
use Rattle.std.proofs.lemmas.Result.{err_from_is_err_and}
use Rattle.wast_names.specs.Demand.{Refuses}
use Rattle.wast_core_types.specs.TypeViews.{item_tree}
use Rattle.wast_meaning.specs.Spaces.{bound_type}
use Rattle.wast_spaces.specs.Joins.{Joined, joining}
use Rattle.wast_spaces.specs.Views.{spaces_of}
use Rattle.wast_spaces.proofs.Joins.{joined_all, joined_more, refused_at}
use Rattle.wast_spaces.proofs.Written.{each_one, type_items}
use Rattle.wast_spaces.proofs.spaces.Spaces.add_types.Goals as goal

pub returns-in_err-add_type : goal.returns-in_err-add_type
returns-in_err-add_type c =
    let old = c.args.self.now in
    let p = err_from_is_err_and c.from_residual.result c.from_residual.ensures.1 in
    rw (p.1, p.2) (
    subst (λ bs. Refuses (joining (spaces_of old) bs) c.in_err-add_type.field-0.0) (each_one item_tree bound_type c.args.types.now)
    (refused_at type_items old c.loop-item.self c.args.types.now c.loop-item.item-index c.item-item.result _ c.loop-item-test.true c.item-item.is c.loop-item.invariant c.in_err-add_type.ensures)
    )

pub loop-item-preserved : goal.loop-item-preserved
loop-item-preserved c =
    joined_more type_items c.args.self.now c.loop-item.self c.add_type.new.self c.args.types.now c.loop-item.item-index c.item-item.result c.loop-item-test.true c.item-item.is
    c.loop-item.invariant c.in_ok-add_type.ensures

pub returns : goal.returns
returns c =
    subst (Joined c.args.self.now c.loop-item.self) (each_one item_tree bound_type c.args.types.now)
    (joined_all type_items c.args.self.now c.loop-item.self c.args.types.now c.loop-item.item-index c.loop-item-test.false c.loop-item.invariant)
