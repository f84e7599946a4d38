use Rattle.wasm_encoder_base.specs.Table.{table}
use Rattle.wasm_encoder_base.specs.Leb.{uleb, leb, digits}
use Rattle.wast_core_instr.specs.InstructionViews.{instruction_tree}
use Rattle.wast_core_instr.specs.declared.instruction.Instruction.{Instruction}
use Rattle.wast_meaning.specs.Mentions.{instr_mentions}
use Rattle.wast_mentions.specs.Judging.{Judged}
use Rattle.wast_mentions.proofs.Rows.{at_one, at_either}
use Rattle.wast_mentions.proofs.instructions.InstructionTell.tell.Goals as goal

pub returns-in-MemorySize : goal.returns-in-MemorySize
unfolding table uleb leb digits
returns-in-MemorySize g c =
    let j = g.J.Judgement in
    let asks = j.asks c.args.judge.now in
    let h = c.tell_index_if.ensures in
    let said : Instruction → Type 0 = λ op. Judged asks j.holds j.tells c.tell_index_if.result (instr_mentions (instruction_tree op)) in
    at_either said _ _ h (at_one said _ _ h) c.in-MemorySize.is

pub returns-in-TableGet : goal.returns-in-TableGet
unfolding table uleb leb digits
returns-in-TableGet g c =
    let j = g.J.Judgement in
    let asks = j.asks c.args.judge.now in
    let h = c.tell_index_if-in-TableGet.ensures in
    let said : Instruction → Type 0 = λ op. Judged asks j.holds j.tells c.tell_index_if-in-TableGet.result (instr_mentions (instruction_tree op)) in
    at_either said _ _ h (at_one said _ _ h) c.in-TableGet.is

pub returns-in-GlobalGet : goal.returns-in-GlobalGet
unfolding table uleb leb digits
returns-in-GlobalGet g c =
    let j = g.J.Judgement in
    let asks = j.asks c.args.judge.now in
    let h = c.tell_index.ensures in
    let said : Instruction → Type 0 = λ op. Judged asks j.holds j.tells c.tell_index.result (instr_mentions (instruction_tree op)) in
    at_either said _ _ h (at_one said _ _ h) c.in-GlobalGet.is

pub returns-in-LocalGet : goal.returns-in-LocalGet
unfolding table uleb leb digits
returns-in-LocalGet g c =
    let j = g.J.Judgement in
    let asks = j.asks c.args.judge.now in
    let h = c.tell_index-in-LocalGet.ensures in
    let said : Instruction → Type 0 = λ op. Judged asks j.holds j.tells c.tell_index-in-LocalGet.result (instr_mentions (instruction_tree op)) in
    at_either said _ _ h (at_either said _ _ h (at_one said _ _ h)) c.in-LocalGet.is

pub returns-in-CallRef : goal.returns-in-CallRef
unfolding table uleb leb digits
returns-in-CallRef g c =
    let j = g.J.Judgement in
    let asks = j.asks c.args.judge.now in
    let h = c.tell_index-in-CallRef.ensures in
    let said : Instruction → Type 0 = λ op. Judged asks j.holds j.tells c.tell_index-in-CallRef.result (instr_mentions (instruction_tree op)) in
    at_either said _ _ h (at_one said _ _ h) c.in-CallRef.is

pub returns-in-Call : goal.returns-in-Call
unfolding table uleb leb digits
returns-in-Call g c =
    let j = g.J.Judgement in
    let asks = j.asks c.args.judge.now in
    let h = c.tell_index-in-Call.ensures in
    let said : Instruction → Type 0 = λ op. Judged asks j.holds j.tells c.tell_index-in-Call.result (instr_mentions (instruction_tree op)) in
    at_either said _ _ h (at_one said _ _ h) c.in-Call.is

pub returns-in-Catch : goal.returns-in-Catch
unfolding table uleb leb digits
returns-in-Catch g c =
    let j = g.J.Judgement in
    let asks = j.asks c.args.judge.now in
    let h = c.tell_index-in-Catch.ensures in
    let said : Instruction → Type 0 = λ op. Judged asks j.holds j.tells c.tell_index-in-Catch.result (instr_mentions (instruction_tree op)) in
    at_either said _ _ h (at_one said _ _ h) c.in-Catch.is

pub returns-in-Br : goal.returns-in-Br
unfolding table uleb leb digits
returns-in-Br g c =
    let j = g.J.Judgement in
    let asks = j.asks c.args.judge.now in
    let h = c.tell_index-in-Br.ensures in
    let said : Instruction → Type 0 = λ op. Judged asks j.holds j.tells c.tell_index-in-Br.result (instr_mentions (instruction_tree op)) in
    at_either said _ _ h (at_either said _ _ h (at_either said _ _ h (at_one said _ _ h))) c.in-Br.is
