use Rattle.std.proofs.Common.{option_map}
use Rattle.wasm_encoder_base.specs.Table.{table, Datas, Elems, Memories, Tables}
use Rattle.wasm_encoder_base.specs.OperandSyntax as syntax
use Rattle.wasm_encoder_base.specs.Leb.{uleb, leb, digits}
use Rattle.wast_parser.specs.Identifiers.{index_tree}
use Rattle.wast_operands.specs.declared.index.MemoryInit.{MemoryInit}
use Rattle.wast_operands.specs.declared.index.TableInit.{TableInit}
use Rattle.wast_core_instr.specs.InstructionTree as operands
use Rattle.wast_core_instr.specs.InstructionViews.{instruction_tree}
use Rattle.wast_core_instr.specs.declared.bulk.BulkOp.{BulkOp}
use Rattle.wast_core_instr.specs.declared.instruction.Instruction.TheVariants as instructions
use Rattle.wast_meaning.specs.Mentions.{instr_mentions, operand_mentions}
use Rattle.wast_mentions.specs.Judging.{Judged}
use Rattle.wast_mentions.proofs.Rows.{at_one, at_either, of_both}
use Rattle.wast_mentions.proofs.instructions.BulkOpTell.tell.Goals as goal

pub returns-in-DataDrop : goal.returns-in-DataDrop
unfolding table uleb leb digits
returns-in-DataDrop g c =
    let j = g.J.Judgement in
    let asks = j.asks c.args.judge.now in
    at_one (λ op. Judged asks j.holds j.tells c.tell_index.result (instr_mentions (instruction_tree (instructions.Bulk op)))) _ _ c.tell_index.ensures c.in-DataDrop.is

pub returns-in-ElemDrop : goal.returns-in-ElemDrop
unfolding table uleb leb digits
returns-in-ElemDrop g c =
    let j = g.J.Judgement in
    let asks = j.asks c.args.judge.now in
    at_one (λ op. Judged asks j.holds j.tells c.tell_index-in-ElemDrop.result (instr_mentions (instruction_tree (instructions.Bulk op)))) _ _ c.tell_index-in-ElemDrop.ensures c.in-ElemDrop.is

pub returns-in-MemoryFill : goal.returns-in-MemoryFill
unfolding table uleb leb digits
returns-in-MemoryFill g c =
    let j = g.J.Judgement in
    let asks = j.asks c.args.judge.now in
    at_one (λ op. Judged asks j.holds j.tells c.tell_index_if.result (instr_mentions (instruction_tree (instructions.Bulk op)))) _ _ c.tell_index_if.ensures c.in-MemoryFill.is

pub returns-in-MemoryCopy : goal.returns-in-MemoryCopy
unfolding table uleb leb digits
returns-in-MemoryCopy g c =
    let j = g.J.Judgement in
    let asks = j.asks c.args.judge.now in
    at_one (λ op. Judged asks j.holds j.tells c.tell_copy.result (instr_mentions (instruction_tree (instructions.Bulk op)))) _ _ c.tell_copy.ensures c.in-MemoryCopy.is

pub returns-in-TableCopy : goal.returns-in-TableCopy
unfolding table uleb leb digits
returns-in-TableCopy g c =
    let j = g.J.Judgement in
    let asks = j.asks c.args.judge.now in
    at_one (λ op. Judged asks j.holds j.tells c.tell_copy-in-TableCopy.result (instr_mentions (instruction_tree (instructions.Bulk op)))) _ _ c.tell_copy-in-TableCopy.ensures c.in-TableCopy.is

pub returns-in-MemoryInit : goal.returns-in-MemoryInit
unfolding table uleb leb digits
returns-in-MemoryInit g c =
    let j = g.J.Judgement in
    let asks = j.asks c.args.judge.now in
    let by : MemoryInit → MemoryInit → Type 0 = λ a b. Judged asks j.holds j.tells c.tell_init.result (operand_mentions (syntax.Init Memories Datas) (operands.OptionalThen (option_map index_tree a.mem) (index_tree b.«data»))) in
    at_one (λ op. Judged asks j.holds j.tells c.tell_init.result (instr_mentions (instruction_tree (instructions.Bulk op)))) _ _ (of_both by c.deref.ensures c.deref-in-MemoryInit.ensures c.tell_init.ensures) c.in-MemoryInit.is

pub returns-in-TableInit : goal.returns-in-TableInit
unfolding table uleb leb digits
returns-in-TableInit g c =
    let j = g.J.Judgement in
    let asks = j.asks c.args.judge.now in
    let by : TableInit → TableInit → Type 0 = λ a b. Judged asks j.holds j.tells c.tell_init-in-TableInit.result (operand_mentions (syntax.Init Tables Elems) (operands.OptionalThen (option_map index_tree a.table) (index_tree b.elem))) in
    at_one (λ op. Judged asks j.holds j.tells c.tell_init-in-TableInit.result (instr_mentions (instruction_tree (instructions.Bulk op)))) _ _ (of_both by c.deref-in-TableInit.ensures c.deref-in-TableInit-2.ensures c.tell_init-in-TableInit.ensures) c.in-TableInit.is

pub returns-in-TableGrow : goal.returns-in-TableGrow
unfolding table uleb leb digits
returns-in-TableGrow g c =
    let j = g.J.Judgement in
    let asks = j.asks c.args.judge.now in
    let h = c.tell_index_if-in-TableGrow.ensures in
    let said : BulkOp → Type 0 = λ op. Judged asks j.holds j.tells c.tell_index_if-in-TableGrow.result (instr_mentions (instruction_tree (instructions.Bulk op))) in
    at_either said _ _ h (at_either said _ _ h (at_one said _ _ h)) c.in-TableGrow.is
