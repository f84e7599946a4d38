use Rattle.std.proofs.Common.{inl, inr, sym, refl}
use Rattle.wast_core_instr.proofs.GroupLaws.{block_is, loop_is, if_is}
use Rattle.wast_core_instr.proofs.GroupKinds.{other_group}
use Rattle.wast_core_instr.proofs.operation.group_kind.Goals as goal

pub returns-in-Block : goal.returns-in-Block
returns-in-Block c = elim c.in-Block.is [ inl p ↦ rw (p.1) (sym block_is) | inr r ↦ elim r [ inl p ↦ rw (p.1) (sym loop_is) | inr p ↦ rw (p.1) refl ] ]

pub returns-in-Block-2 : goal.returns-in-Block-2
returns-in-Block-2 c = elim c.in-Block.is [ inl p ↦ rw (p.1) (sym block_is) | inr r ↦ elim r [ inl p ↦ rw (p.1) (sym loop_is) | inr p ↦ rw (p.1) refl ] ]

pub returns-in-If : goal.returns-in-If
returns-in-If c = rw (c.in-If.is) (sym if_is)

pub returns-in_default : goal.returns-in_default
returns-in_default c = other_group c.args.instruction.now c.in_default.not-Block c.in_default.not-Loop c.in_default.not-If c.in_default.not-TryTable
