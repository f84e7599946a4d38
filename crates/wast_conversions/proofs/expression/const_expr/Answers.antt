use Rattle.std.proofs.Common.{◌≡◌, List, [], map, sym, ap, subst, ◌∙◌}
use Rattle.std.specs.Prelude.{Err}
use Rattle.std.specs.List.{flat_map, AllByRecursion}
use Rattle.std.proofs.lemmas.List.Elements.{All-same}
use Rattle.wasm_encoder_base.specs.Instr.{IsInstr}
use Rattle.wast_core_instr.specs.InstructionViews.{instruction_operands, instruction_tree}
use Rattle.wast_core_instr.specs.declared.instruction.Instruction as tree
use Rattle.wast_conversions.specs.Operands.{OperandsAligned}
use Rattle.wast_conversions.specs.Instructions.{instrs_meant}
use Rattle.wast_conversions.specs.Resolved.{InstrResolved}
use Rattle.wast_conversions.specs.Covered.{instr_forms}
use Rattle.wast_conversions.specs.Rows.{bytes_meant, FitsMeant}
use Rattle.wast_conversions.proofs.Each.{each_of, none_of, anyway}
use Rattle.wast_conversions.proofs.Expressions.{made_of, unmade}
use Rattle.wast_conversions.proofs.expression.const_expr.Goals as goal

pub instruction_bytes-requires-clause-resolved : goal.instruction_bytes-requires-clause-resolved
instruction_bytes-requires-clause-resolved c =
    let is = c.args.expr.now.instrs.items in
    All-same (λ i. InstrResolved (instruction_tree i)) c.deref.result.now is c.deref.ensures.value (each_of InstrResolved instruction_tree is c.requires.resolved)

pub instruction_bytes-requires-clause-covered : goal.instruction_bytes-requires-clause-covered
instruction_bytes-requires-clause-covered c =
    let is = c.args.expr.now.instrs.items in
    All-same (λ i. instr_forms (instruction_tree i) ≡ []) c.deref.result.now is c.deref.ensures.value (none_of instr_forms instruction_tree is c.requires.covered)

pub instruction_bytes-requires-clause-aligned : goal.instruction_bytes-requires-clause-aligned
instruction_bytes-requires-clause-aligned c =
    let is = c.args.expr.now.instrs.items in
    All-same (λ i. OperandsAligned (instruction_operands i)) c.deref.result.now is c.deref.ensures.value
    (each_of (λ i. OperandsAligned i.operands) instruction_tree is c.requires.aligned)

pub returns-in-Ok-clause-same : goal.returns-in-Ok-clause-same
returns-in-Ok-clause-same c =
    let is = c.args.expr.now.instrs.items in
    made_of is c.deref-in-Ok.result.now c.raw.result (c.deref-in-Ok.ensures.value ∙ c.in-Ok.ensures.ok ∙ ap (flat_map bytes_meant) c.deref.ensures.value)
    (All-same FitsMeant is c.deref.result.now (sym c.deref.ensures.value) c.in-Ok.ensures.fits) c.raw.ensures

pub returns-in-Err-clause-same : goal.returns-in-Err-clause-same
returns-in-Err-clause-same c =
    let is = c.args.expr.now.instrs.items in
    unmade is c.in-Err.e (λ t fit. c.in-Err.ensures.too_large (ap Err t) (All-same FitsMeant c.deref.result.now is c.deref.ensures.value fit))

pub returns-in-Ok-clause-sound : goal.returns-in-Ok-clause-sound
returns-in-Ok-clause-sound c =
    let P : List tree.Instruction → Type 0 = λ is. AllByRecursion IsInstr (instrs_meant (map instruction_tree is)) in
    anyway c.raw.result (subst P c.deref.ensures.value c.in-Ok.ensures.sound)
