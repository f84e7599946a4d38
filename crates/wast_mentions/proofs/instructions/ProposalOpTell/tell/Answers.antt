use Rattle.wasm_encoder_base.specs.Table.{table}
use Rattle.wasm_encoder_base.specs.Leb.{uleb, leb, digits}
use Rattle.wasm_encoder_base.specs.Uncovered.{uncovered}
use Rattle.wast_core_instr.specs.InstructionViews.{proposal_tree}
use Rattle.wast_core_instr.specs.declared.proposal.ProposalOp.{ProposalOp}
use Rattle.wast_meaning.specs.Mentions.{instr_mentions}
use Rattle.wast_mentions.specs.Judging.{Judged}
use Rattle.wast_mentions.proofs.Rows.{at_one, at_either}
use Rattle.wast_mentions.proofs.instructions.ProposalOpTell.tell.Goals as goal

pub returns-in-Suspend : goal.returns-in-Suspend
unfolding table uncovered uleb leb digits
returns-in-Suspend g c =
    let j = g.J.Judgement in
    let asks = j.asks c.args.judge.now in
    at_one (λ op. Judged asks j.holds j.tells c.tell_index.result (instr_mentions (proposal_tree op))) _ _ c.tell_index.ensures c.in-Suspend.is

pub returns-in-ContBind : goal.returns-in-ContBind
unfolding table uncovered uleb leb digits
returns-in-ContBind g c =
    let j = g.J.Judgement in
    let asks = j.asks c.args.judge.now in
    at_one (λ op. Judged asks j.holds j.tells c.tell_two.result (instr_mentions (proposal_tree op))) _ _ c.tell_two.ensures c.in-ContBind.is

pub returns-in-Switch : goal.returns-in-Switch
unfolding table uncovered uleb leb digits
returns-in-Switch g c =
    let j = g.J.Judgement in
    let asks = j.asks c.args.judge.now in
    at_one (λ op. Judged asks j.holds j.tells c.tell_two-in-Switch.result (instr_mentions (proposal_tree op))) _ _ c.tell_two-in-Switch.ensures c.in-Switch.is

pub returns-in-MemoryDiscard : goal.returns-in-MemoryDiscard
unfolding table uncovered uleb leb digits
returns-in-MemoryDiscard g c =
    let j = g.J.Judgement in
    let asks = j.asks c.args.judge.now in
    at_one (λ op. Judged asks j.holds j.tells c.tell_index_if.result (instr_mentions (proposal_tree op))) _ _ c.tell_index_if.ensures c.in-MemoryDiscard.is

pub returns-in-StructAtomicGet : goal.returns-in-StructAtomicGet
unfolding table uncovered uleb leb digits
returns-in-StructAtomicGet g c =
    let j = g.J.Judgement in
    let asks = j.asks c.args.judge.now in
    let h = c.tell_member.ensures in
    let said : ProposalOp → Type 0 = λ op. Judged asks j.holds j.tells c.tell_member.result (instr_mentions (proposal_tree op)) in
    at_either said _ _ h (at_either said _ _ h (at_either said _ _ h (at_either said _ _ h (at_either said _ _ h (at_either said _ _ h (at_either said _ _ h (at_either said _ _ h (at_either said _ _ h (at_either said _ _ h (at_one said _ _ h)))))))))) c.in-StructAtomicGet.is

pub returns-in-TableAtomicGet : goal.returns-in-TableAtomicGet
unfolding table uncovered uleb leb digits
returns-in-TableAtomicGet g c =
    let j = g.J.Judgement in
    let asks = j.asks c.args.judge.now in
    let h = c.tell_index_if-in-TableAtomicGet.ensures in
    let said : ProposalOp → Type 0 = λ op. Judged asks j.holds j.tells c.tell_index_if-in-TableAtomicGet.result (instr_mentions (proposal_tree op)) in
    at_either said _ _ h (at_either said _ _ h (at_either said _ _ h (at_one said _ _ h))) c.in-TableAtomicGet.is

pub returns-in-ArrayAtomicGet : goal.returns-in-ArrayAtomicGet
unfolding table uncovered uleb leb digits
returns-in-ArrayAtomicGet g c =
    let j = g.J.Judgement in
    let asks = j.asks c.args.judge.now in
    let h = c.tell_index-in-ArrayAtomicGet.ensures in
    let said : ProposalOp → Type 0 = λ op. Judged asks j.holds j.tells c.tell_index-in-ArrayAtomicGet.result (instr_mentions (proposal_tree op)) in
    at_either said _ _ h (at_either said _ _ h (at_either said _ _ h (at_either said _ _ h (at_either said _ _ h (at_either said _ _ h (at_either said _ _ h (at_either said _ _ h (at_either said _ _ h (at_either said _ _ h (at_one said _ _ h)))))))))) c.in-ArrayAtomicGet.is

pub returns-in-GlobalAtomicGet : goal.returns-in-GlobalAtomicGet
unfolding table uncovered uleb leb digits
returns-in-GlobalAtomicGet g c =
    let j = g.J.Judgement in
    let asks = j.asks c.args.judge.now in
    let h = c.tell_index-in-GlobalAtomicGet.ensures in
    let said : ProposalOp → Type 0 = λ op. Judged asks j.holds j.tells c.tell_index-in-GlobalAtomicGet.result (instr_mentions (proposal_tree op)) in
    at_either said _ _ h (at_either said _ _ h (at_either said _ _ h (at_either said _ _ h (at_either said _ _ h (at_either said _ _ h (at_either said _ _ h (at_either said _ _ h (at_one said _ _ h)))))))) c.in-GlobalAtomicGet.is

pub returns-in-ContNew : goal.returns-in-ContNew
unfolding table uncovered uleb leb digits
returns-in-ContNew g c =
    let j = g.J.Judgement in
    let asks = j.asks c.args.judge.now in
    let h = c.tell_index-in-ContNew.ensures in
    let said : ProposalOp → Type 0 = λ op. Judged asks j.holds j.tells c.tell_index-in-ContNew.result (instr_mentions (proposal_tree op)) in
    at_either said _ _ h (at_either said _ _ h (at_either said _ _ h (at_one said _ _ h))) c.in-ContNew.is
