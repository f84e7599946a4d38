use Rattle.std.proofs.Common.{◌≡◌, ◌+◌, ◌<◌, ◌^◌, ◌++◌, [], ℕ, List, length, map, take, subst, ap, arith, flat_map}
use Rattle.std.specs.Prelude.{OnOk}
use Rattle.std.specs.List.{range_with_len}
use Rattle.std.proofs.lemmas.List.Elements.{All-same}
use Rattle.wast_core_instr.specs.InstructionViews.{instruction_operands, instruction_tree}
use Rattle.wast_core_instr.specs.declared.instruction.Instruction as tree
use Rattle.wast_conversions.specs.Operands.{OperandsAligned}
use Rattle.wast_conversions.specs.Resolved.{InstrResolved}
use Rattle.wast_conversions.specs.Covered.{instr_forms}
use Rattle.wast_conversions.specs.Rows.{bytes_meant}
use Rattle.wast_conversions.proofs.Each.{each_of, none_of}
use Rattle.wast_custom_sections.proofs.bodies.put_expression.Goals as goal

pub put_instructions-requires-clause-resolved : goal.put_instructions-requires-clause-resolved
put_instructions-requires-clause-resolved c =
    let is = c.args.expression.now.instrs.items in
    All-same (λ i. InstrResolved (instruction_tree i)) c.deref.result.now is c.deref.ensures.value (each_of InstrResolved instruction_tree is c.requires.resolved)

pub put_instructions-requires-clause-covered : goal.put_instructions-requires-clause-covered
put_instructions-requires-clause-covered c =
    let is = c.args.expression.now.instrs.items in
    All-same (λ i. instr_forms (instruction_tree i) ≡ []) c.deref.result.now is c.deref.ensures.value (none_of instr_forms instruction_tree is c.requires.covered)

pub put_instructions-requires-clause-aligned : goal.put_instructions-requires-clause-aligned
put_instructions-requires-clause-aligned c =
    let is = c.args.expression.now.instrs.items in
    All-same (λ i. OperandsAligned (instruction_operands i)) c.deref.result.now is c.deref.ensures.value (each_of (λ i. OperandsAligned i.operands) instruction_tree is c.requires.aligned)

pub returns-clause-places : goal.returns-clause-places
returns-clause-places c =
    let ends : List tree.Instruction → List ℕ = λ is. map (λ k. length c.args.body.now + length (flat_map bytes_meant (take k is))) (range_with_len 1 (length is)) in
    subst (λ is. OnOk c.put_instructions.result (c.put_instructions.new.places.items ≡ c.args.places.now.items ++ ends is)) c.deref.ensures.value c.put_instructions.ensures.places

pub returns-clause-fits : goal.returns-clause-fits
returns-clause-fits c =
    subst (λ (is : List tree.Instruction). OnOk c.put_instructions.result (length c.args.body.now + length (flat_map bytes_meant is) < 2 ^ 32)) c.deref.ensures.value c.put_instructions.ensures.fits

pub returns-clause-too_large : goal.returns-clause-too_large
returns-clause-too_large c = λ e l.
    let same = ap (λ (is : List tree.Instruction). length (flat_map bytes_meant is)) c.deref.ensures.value in
    c.put_instructions.ensures.too_large e (omega arith)
