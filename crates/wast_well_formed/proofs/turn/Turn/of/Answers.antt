use Rattle.std.proofs.Common.{inl, inr}
use Rattle.wast_mentions.proofs.Turns.{block_opens, loop_opens, if_opens, try_opens, try_table_opens, end_closes, delegate_closes, other_turn}
use Rattle.wast_well_formed.proofs.turn.Turn.of.Goals as goal

pub returns-in-Block : goal.returns-in-Block
returns-in-Block c = elim c.in-Block.is [ inl p ↦ rw (p.1) block_opens | inr q ↦ elim q [ inl p ↦ rw (p.1) loop_opens | inr r ↦ elim r [ inl p ↦ rw (p.1) if_opens | inr s ↦ elim s [ inl p ↦ rw (p.1) try_opens | inr p ↦ rw (p.1) try_table_opens ] ] ] ]

pub returns-in-Block-2 : goal.returns-in-Block-2
returns-in-Block-2 c = elim c.in-Block.is [ inl p ↦ rw (p.1) block_opens | inr q ↦ elim q [ inl p ↦ rw (p.1) loop_opens | inr r ↦ elim r [ inl p ↦ rw (p.1) if_opens | inr s ↦ elim s [ inl p ↦ rw (p.1) try_opens | inr p ↦ rw (p.1) try_table_opens ] ] ] ]

pub returns-in-Block-3 : goal.returns-in-Block-3
returns-in-Block-3 c = elim c.in-Block.is [ inl p ↦ rw (p.1) block_opens | inr q ↦ elim q [ inl p ↦ rw (p.1) loop_opens | inr r ↦ elim r [ inl p ↦ rw (p.1) if_opens | inr s ↦ elim s [ inl p ↦ rw (p.1) try_opens | inr p ↦ rw (p.1) try_table_opens ] ] ] ]

pub returns-in-Block-4 : goal.returns-in-Block-4
returns-in-Block-4 c = elim c.in-Block.is [ inl p ↦ rw (p.1) block_opens | inr q ↦ elim q [ inl p ↦ rw (p.1) loop_opens | inr r ↦ elim r [ inl p ↦ rw (p.1) if_opens | inr s ↦ elim s [ inl p ↦ rw (p.1) try_opens | inr p ↦ rw (p.1) try_table_opens ] ] ] ]

pub returns-in-Block-5 : goal.returns-in-Block-5
returns-in-Block-5 c = elim c.in-Block.is [ inl p ↦ rw (p.1) block_opens | inr q ↦ elim q [ inl p ↦ rw (p.1) loop_opens | inr r ↦ elim r [ inl p ↦ rw (p.1) if_opens | inr s ↦ elim s [ inl p ↦ rw (p.1) try_opens | inr p ↦ rw (p.1) try_table_opens ] ] ] ]

pub returns-in-End : goal.returns-in-End
returns-in-End c = elim c.in-End.is [ inl p ↦ rw (p.1) end_closes | inr p ↦ rw (p.1) delegate_closes ]

pub returns-in-End-2 : goal.returns-in-End-2
returns-in-End-2 c = elim c.in-End.is [ inl p ↦ rw (p.1) end_closes | inr p ↦ rw (p.1) delegate_closes ]

pub returns-in_default : goal.returns-in_default
returns-in_default c = other_turn c.args.instruction.now c.in_default.not-Block c.in_default.not-Loop c.in_default.not-If c.in_default.not-Try c.in_default.not-TryTable c.in_default.not-End c.in_default.not-Delegate
