use Rattle.std.proofs.Common.{◌+◌, arith}
use Rattle.wast_imports.specs.ImportViews.{member_tree}
use Rattle.wast_binary.specs.Weight.{extern_weight}
use Rattle.wast_binary.proofs.Totals.{one_behind, all_behind}
use Rattle.wast_binary.proofs.room.behind_members.Goals as goal

pub loop-member-preserved : goal.loop-member-preserved
loop-member-preserved c = one_behind (λ i. extern_weight i.1.extern_type + 1) member_tree c.args.members.now c.loop-member.member-index _ _ _ _ (omega arith) c.member-item.is c.loop-member.invariant c.in-Some.ensures

pub returns : goal.returns
returns c = all_behind (λ i. extern_weight i.1.extern_type + 1) member_tree c.args.members.now c.loop-member.member-index _ _ (omega arith) c.loop-member.invariant
