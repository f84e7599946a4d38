use Rattle.std.proofs.Common.{arith}
use Rattle.wast_core_types.specs.TypeViews.{item_tree}
use Rattle.wast_binary.specs.Weight.{type_weight}
use Rattle.wast_binary.proofs.Totals.{one_behind, all_behind}
use Rattle.wast_binary.proofs.room.behind_types.Goals as goal

pub loop-item-preserved : goal.loop-item-preserved
loop-item-preserved c = one_behind type_weight item_tree c.args.items.now c.loop-item.item-index _ _ _ _ (omega arith) c.item-item.is c.loop-item.invariant c.in-Some.ensures

pub returns : goal.returns
returns c = all_behind type_weight item_tree c.args.items.now c.loop-item.item-index _ _ (omega arith) c.loop-item.invariant
