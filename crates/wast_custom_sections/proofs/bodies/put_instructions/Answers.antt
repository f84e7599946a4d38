use Rattle.std.proofs.Common.{◌≡◌, ◌+◌, [], ℕ, length, take, arith, flat_map}
use Rattle.std.proofs.lemmas.Result.{err_from_is_err_and}
use Rattle.wast_core_instr.specs.InstructionViews.{instruction_operands, instruction_tree}
use Rattle.wast_conversions.specs.Operands.{OperandsAligned}
use Rattle.wast_conversions.specs.Resolved.{InstrResolved}
use Rattle.wast_conversions.specs.Covered.{instr_forms}
use Rattle.wast_conversions.specs.Rows.{bytes_meant}
use Rattle.wast_conversions.proofs.Each.{at_item}
use Rattle.wast_custom_sections.proofs.Begin.{bytes_then, length_then, ends_then, item_size}
use Rattle.wast_custom_sections.proofs.Errors.{same_error}
use Rattle.wast_custom_sections.proofs.bodies.put_instructions.Goals as goal

pub put_placed-requires-clause-resolved : goal.put_placed-requires-clause-resolved
put_placed-requires-clause-resolved c =
    at_item (λ i. InstrResolved (instruction_tree i)) c.args.instrs.now c.loop-instr.instr-index c.instr-item.result c.loop-instr-test.true c.instr-item.is c.requires.resolved

pub put_placed-requires-clause-covered : goal.put_placed-requires-clause-covered
put_placed-requires-clause-covered c =
    at_item (λ i. instr_forms (instruction_tree i) ≡ []) c.args.instrs.now c.loop-instr.instr-index c.instr-item.result c.loop-instr-test.true c.instr-item.is c.requires.covered

pub put_placed-requires-clause-aligned : goal.put_placed-requires-clause-aligned
put_placed-requires-clause-aligned c =
    at_item (λ i. OperandsAligned (instruction_operands i)) c.args.instrs.now c.loop-instr.instr-index c.instr-item.result c.loop-instr-test.true c.instr-item.is c.requires.aligned

pub loop-instr-preserved : goal.loop-instr-preserved
loop-instr-preserved c =
    let is = c.args.instrs.now in
    let i = c.loop-instr.instr-index in
    let put = c.in_ok-put_placed.ensures in
    let end : ℕ → ℕ = λ k. length c.args.body.now + length (flat_map bytes_meant (take k is)) in
    let spelled = bytes_then bytes_meant is i c.instr-item.result c.loop-instr-test.true c.instr-item.is c.args.body.now c.loop-instr.invariant.spelled put.spelled in
    record {
      spelled = spelled;
      places = ends_then end i _ c.args.places.now.items c.loop-instr.invariant.places (length_then c.args.body.now (flat_map bytes_meant (take (i + 1) is)) spelled) put.place;
      fits = put.fits;
    }

pub returns-in_err-put_placed-clause-too_large : goal.returns-in_err-put_placed-clause-too_large
returns-in_err-put_placed-clause-too_large c =
    let is = c.args.instrs.now in
    let i = c.loop-instr.instr-index in
    let x = c.instr-item.result in
    let done = length_then c.args.body.now (flat_map bytes_meant (take i is)) c.loop-instr.invariant.spelled in
    let size = item_size bytes_meant is i x c.loop-instr-test.true c.instr-item.is in
    let r = err_from_is_err_and c.from_residual.result c.from_residual.ensures.1 in
    rw (r.1, r.2) (λ e l. c.in_err-put_placed.ensures.too_large (same_error e) (omega arith))
