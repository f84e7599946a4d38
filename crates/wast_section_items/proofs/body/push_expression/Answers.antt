use Rattle.std.proofs.Common.{◌≡◌, []}
use Rattle.std.proofs.lemmas.List.Elements.{All-same}
use Rattle.wast_core_instr.specs.InstructionViews.{instruction_operands, instruction_tree}
use Rattle.wast_conversions.specs.Operands.{OperandsAligned}
use Rattle.wast_conversions.specs.Resolved.{InstrResolved}
use Rattle.wast_conversions.specs.Covered.{instr_forms}
use Rattle.wast_conversions.proofs.Each.{each_of, none_of}
use Rattle.wast_section_items.proofs.Bodies.{puts_of, sound_of}
use Rattle.wast_section_items.proofs.body.push_expression.Goals as goal

pub push_instructions-requires-clause-resolved : goal.push_instructions-requires-clause-resolved
push_instructions-requires-clause-resolved c =
    let is = c.args.expression.now.instrs.items in
    All-same (λ i. InstrResolved (instruction_tree i)) c.deref.result.now is c.deref.ensures.value (each_of InstrResolved instruction_tree is c.requires.ready.resolved)

pub push_instructions-requires-clause-covered : goal.push_instructions-requires-clause-covered
push_instructions-requires-clause-covered c =
    let is = c.args.expression.now.instrs.items in
    All-same (λ i. instr_forms (instruction_tree i) ≡ []) c.deref.result.now is c.deref.ensures.value (none_of instr_forms instruction_tree is c.requires.covered)

pub push_instructions-requires-clause-aligned : goal.push_instructions-requires-clause-aligned
push_instructions-requires-clause-aligned c =
    let is = c.args.expression.now.instrs.items in
    All-same (λ i. OperandsAligned (instruction_operands i)) c.deref.result.now is c.deref.ensures.value (each_of (λ i. OperandsAligned i.operands) instruction_tree is c.requires.ready.aligned)

pub returns-clause-same : goal.returns-clause-same
returns-clause-same c = puts_of c.deref.result.now c.args.expression.now.instrs.items _ _ c.push_instructions.result c.deref.ensures.value c.push_instructions.ensures.same

pub returns-clause-sound : goal.returns-clause-sound
returns-clause-sound c = sound_of c.deref.result.now c.args.expression.now.instrs.items c.push_instructions.result c.deref.ensures.value c.push_instructions.ensures.sound
