use Rattle.std.proofs.Common.{[], ◌∷◌, subst}
use Rattle.wasm_encoder_base.specs.Table.{table, Types, Datas, Elems}
use Rattle.wasm_encoder_base.specs.Leb.{uleb, leb, digits}
use Rattle.wast_parser.specs.Identifiers.{index_tree}
use Rattle.wast_operands.specs.declared.index.ArrayCopy.{ArrayCopy}
use Rattle.wast_operands.specs.declared.index.ArrayInit.{ArrayInit}
use Rattle.wast_operands.specs.declared.index.ArrayNewData.{ArrayNewData}
use Rattle.wast_operands.specs.declared.index.ArrayNewElem.{ArrayNewElem}
use Rattle.wast_operands.specs.declared.index.ArrayNewFixed.{ArrayNewFixed}
use Rattle.wast_operands.specs.declared.index.StructAccess.{StructAccess}
use Rattle.wast_core_instr.specs.InstructionViews.{instruction_tree}
use Rattle.wast_core_instr.specs.declared.gc.GcOp.{GcOp}
use Rattle.wast_core_instr.specs.declared.instruction.Instruction.TheVariants as instructions
use Rattle.wast_meaning.specs.Mentions.{Refers, Member, instr_mentions}
use Rattle.wast_mentions.specs.Judging.{Judged}
use Rattle.wast_mentions.proofs.Rows.{at_one, at_either, of_both}
use Rattle.wast_mentions.proofs.instructions.GcOpTell.tell.Goals as goal

pub returns-in-RefFunc : goal.returns-in-RefFunc
unfolding table uleb leb digits
returns-in-RefFunc g c =
    let j = g.J.Judgement in
    let asks = j.asks c.args.judge.now in
    at_one (λ op. Judged asks j.holds j.tells c.tell_index.result (instr_mentions (instruction_tree (instructions.Gc op)))) _ _ c.tell_index.ensures c.in-RefFunc.is

pub returns-in-ArrayFill : goal.returns-in-ArrayFill
unfolding table uleb leb digits
returns-in-ArrayFill g c =
    let j = g.J.Judgement in
    let asks = j.asks c.args.judge.now in
    at_one (λ op. Judged asks j.holds j.tells c.tell_index-in-ArrayFill.result (instr_mentions (instruction_tree (instructions.Gc op)))) _ _ c.tell_index-in-ArrayFill.ensures c.in-ArrayFill.is

pub returns-in-ArrayNewFixed : goal.returns-in-ArrayNewFixed
unfolding table uleb leb digits
returns-in-ArrayNewFixed g c =
    let j = g.J.Judgement in
    let asks = j.asks c.args.judge.now in
    let by : ArrayNewFixed → Type 0 = λ a. Judged asks j.holds j.tells c.tell_index-in-ArrayNewFixed.result (Refers Types (index_tree a.array) ∷ []) in
    at_one (λ op. Judged asks j.holds j.tells c.tell_index-in-ArrayNewFixed.result (instr_mentions (instruction_tree (instructions.Gc op)))) _ _ (subst by c.deref.ensures c.tell_index-in-ArrayNewFixed.ensures) c.in-ArrayNewFixed.is

pub returns-in-ArrayNewData : goal.returns-in-ArrayNewData
unfolding table uleb leb digits
returns-in-ArrayNewData g c =
    let j = g.J.Judgement in
    let asks = j.asks c.args.judge.now in
    let by : ArrayNewData → ArrayNewData → Type 0 = λ a b. Judged asks j.holds j.tells c.tell_two.result (Refers Types (index_tree a.array) ∷ Refers Datas (index_tree b.data_idx) ∷ []) in
    at_one (λ op. Judged asks j.holds j.tells c.tell_two.result (instr_mentions (instruction_tree (instructions.Gc op)))) _ _ (of_both by c.deref-in-ArrayNewData.ensures c.deref-in-ArrayNewData-2.ensures c.tell_two.ensures) c.in-ArrayNewData.is

pub returns-in-ArrayNewElem : goal.returns-in-ArrayNewElem
unfolding table uleb leb digits
returns-in-ArrayNewElem g c =
    let j = g.J.Judgement in
    let asks = j.asks c.args.judge.now in
    let by : ArrayNewElem → ArrayNewElem → Type 0 = λ a b. Judged asks j.holds j.tells c.tell_two-in-ArrayNewElem.result (Refers Types (index_tree a.array) ∷ Refers Elems (index_tree b.elem_idx) ∷ []) in
    at_one (λ op. Judged asks j.holds j.tells c.tell_two-in-ArrayNewElem.result (instr_mentions (instruction_tree (instructions.Gc op)))) _ _ (of_both by c.deref-in-ArrayNewElem.ensures c.deref-in-ArrayNewElem-2.ensures c.tell_two-in-ArrayNewElem.ensures) c.in-ArrayNewElem.is

pub returns-in-ArrayCopy : goal.returns-in-ArrayCopy
unfolding table uleb leb digits
returns-in-ArrayCopy g c =
    let j = g.J.Judgement in
    let asks = j.asks c.args.judge.now in
    let by : ArrayCopy → ArrayCopy → Type 0 = λ a b. Judged asks j.holds j.tells c.tell_two-in-ArrayCopy.result (Refers Types (index_tree a.dest_array) ∷ Refers Types (index_tree b.src_array) ∷ []) in
    at_one (λ op. Judged asks j.holds j.tells c.tell_two-in-ArrayCopy.result (instr_mentions (instruction_tree (instructions.Gc op)))) _ _ (of_both by c.deref-in-ArrayCopy.ensures c.deref-in-ArrayCopy-2.ensures c.tell_two-in-ArrayCopy.ensures) c.in-ArrayCopy.is

pub returns-in-ArrayInitData : goal.returns-in-ArrayInitData
unfolding table uleb leb digits
returns-in-ArrayInitData g c =
    let j = g.J.Judgement in
    let asks = j.asks c.args.judge.now in
    let by : ArrayInit → ArrayInit → Type 0 = λ a b. Judged asks j.holds j.tells c.tell_two-in-ArrayInitData.result (Refers Types (index_tree a.array) ∷ Refers Datas (index_tree b.segment) ∷ []) in
    at_one (λ op. Judged asks j.holds j.tells c.tell_two-in-ArrayInitData.result (instr_mentions (instruction_tree (instructions.Gc op)))) _ _ (of_both by c.deref-in-ArrayInitData.ensures c.deref-in-ArrayInitData-2.ensures c.tell_two-in-ArrayInitData.ensures) c.in-ArrayInitData.is

pub returns-in-ArrayInitElem : goal.returns-in-ArrayInitElem
unfolding table uleb leb digits
returns-in-ArrayInitElem g c =
    let j = g.J.Judgement in
    let asks = j.asks c.args.judge.now in
    let by : ArrayInit → ArrayInit → Type 0 = λ a b. Judged asks j.holds j.tells c.tell_two-in-ArrayInitElem.result (Refers Types (index_tree a.array) ∷ Refers Elems (index_tree b.segment) ∷ []) in
    at_one (λ op. Judged asks j.holds j.tells c.tell_two-in-ArrayInitElem.result (instr_mentions (instruction_tree (instructions.Gc op)))) _ _ (of_both by c.deref-in-ArrayInitElem.ensures c.deref-in-ArrayInitElem-2.ensures c.tell_two-in-ArrayInitElem.ensures) c.in-ArrayInitElem.is

pub returns-in-StructGet : goal.returns-in-StructGet
unfolding table uleb leb digits
returns-in-StructGet g c =
    let j = g.J.Judgement in
    let asks = j.asks c.args.judge.now in
    let by : StructAccess → Type 0 = λ a. Judged asks j.holds j.tells c.tell_member.result (Refers Types (index_tree a.struct_type) ∷ Member (index_tree a.struct_type) (index_tree a.field) ∷ []) in
    let h = subst by c.deref-in-StructGet.ensures c.tell_member.ensures in
    let said : GcOp → Type 0 = λ op. Judged asks j.holds j.tells c.tell_member.result (instr_mentions (instruction_tree (instructions.Gc op))) in
    at_either said _ _ h (at_either said _ _ h (at_either said _ _ h (at_one said _ _ h))) c.in-StructGet.is

pub returns-in-StructNew : goal.returns-in-StructNew
unfolding table uleb leb digits
returns-in-StructNew g c =
    let j = g.J.Judgement in
    let asks = j.asks c.args.judge.now in
    let h = c.tell_index-in-StructNew.ensures in
    let said : GcOp → Type 0 = λ op. Judged asks j.holds j.tells c.tell_index-in-StructNew.result (instr_mentions (instruction_tree (instructions.Gc op))) in
    at_either said _ _ h (at_either said _ _ h (at_either said _ _ h (at_either said _ _ h (at_either said _ _ h (at_either said _ _ h (at_either said _ _ h (at_one said _ _ h))))))) c.in-StructNew.is

pub returns-in-BrOnNull : goal.returns-in-BrOnNull
unfolding table uleb leb digits
returns-in-BrOnNull g c =
    let j = g.J.Judgement in
    let asks = j.asks c.args.judge.now in
    let h = c.tell_index-in-BrOnNull.ensures in
    let said : GcOp → Type 0 = λ op. Judged asks j.holds j.tells c.tell_index-in-BrOnNull.result (instr_mentions (instruction_tree (instructions.Gc op))) in
    at_either said _ _ h (at_one said _ _ h) c.in-BrOnNull.is
