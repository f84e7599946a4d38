use Rattle.std.proofs.Common.{◌≡◌, []}
use Rattle.wasm_encoder_base.specs.Instr.{IsInstr}
use Rattle.wast_core_instr.specs.InstructionViews.{instruction_operands, instruction_tree}
use Rattle.wast_conversions.specs.Instructions.{instr_meant}
use Rattle.wast_conversions.specs.Operands.{OperandsAligned}
use Rattle.wast_conversions.specs.Resolved.{InstrResolved}
use Rattle.wast_conversions.specs.Covered.{instr_forms}
use Rattle.wast_conversions.specs.Rows.{FitsMeant}
use Rattle.wast_conversions.proofs.Each.{at_item, one_more, each_meant}
use Rattle.wast_section_items.proofs.Bodies.{more_behind}
use Rattle.wast_section_items.proofs.body.push_instructions.Goals as goal

pub push_instruction-requires-clause-resolved : goal.push_instruction-requires-clause-resolved
push_instruction-requires-clause-resolved c =
    at_item (λ i. InstrResolved (instruction_tree i)) c.args.instrs.now c.loop-instr.instr-index c.instr-item.result c.loop-instr-test.true c.instr-item.is c.requires.resolved

pub push_instruction-requires-clause-covered : goal.push_instruction-requires-clause-covered
push_instruction-requires-clause-covered c =
    at_item (λ i. instr_forms (instruction_tree i) ≡ []) c.args.instrs.now c.loop-instr.instr-index c.instr-item.result c.loop-instr-test.true c.instr-item.is c.requires.covered

pub push_instruction-requires-clause-aligned : goal.push_instruction-requires-clause-aligned
push_instruction-requires-clause-aligned c =
    at_item (λ i. OperandsAligned (instruction_operands i)) c.args.instrs.now c.loop-instr.instr-index c.instr-item.result c.loop-instr-test.true c.instr-item.is c.requires.aligned

pub loop-instr-preserved : goal.loop-instr-preserved
loop-instr-preserved c =
    let is = c.args.instrs.now in
    let k = c.loop-instr.instr-index in
    let i = c.instr-item.result in
    let l = c.loop-instr-test.true in
    let wrote = c.in_ok-push_instruction.ensures.same in
    record {
      spelled = more_behind is k i _ _ _ l c.instr-item.is c.loop-instr.invariant.spelled wrote.spelled;
      fits = one_more FitsMeant is k i l c.instr-item.is c.loop-instr.invariant.fits wrote.fit;
      sound = one_more (λ j. IsInstr (instr_meant (instruction_tree j))) is k i l c.instr-item.is c.loop-instr.invariant.sound c.in_ok-push_instruction.ensures.sound;
    }

pub returns-clause-sound : goal.returns-clause-sound
returns-clause-sound c = each_meant IsInstr instr_meant instruction_tree c.args.instrs.now c.loop-instr.instr-index c.loop-instr-test.false c.loop-instr.invariant.sound
