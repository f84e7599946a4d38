use Rattle.std.proofs.Common.{◌≡◌, Some, sym, subst, ap, ◌∙◌}
use Rattle.wasm_encoder_base.specs.OperandSyntax.{MemLane}
use Rattle.wast_typed_operands.specs.State.{ahead}
use Rattle.wast_typed_operands.specs.Reading.{Refuses}
use Rattle.wast_operands.specs.OperandSyntax.{mem_arg_lane}
use Rattle.wast_mnemonics.specs.TextTable.{Listed}
use Rattle.wast_core_instr.specs.InstructionTree.{MemoryLane}
use Rattle.wast_core_instr.specs.InstructionSyntax.{operands}
use Rattle.wast_core_instr.specs.InstructionViews.{instruction_operands}
use Rattle.wast_core_instr.proofs.Composed.{read_as, refused_as}
use Rattle.wast_core_instr.proofs.parse.parse_memory_lane.Goals as goal

pub returns-in-Ok-clause-read : goal.returns-in-Ok-clause-read
returns-in-Ok-clause-read c =
    let ts = ahead c.args.parser.now in
    let row = c.natural_alignment.ensures ∙ ap (λ n. Listed (MemLane n)) (sym c.from.ensures) in
    let read = read_as (λ x. MemoryLane x.0 x.1) (mem_arg_lane c.from.result) ts _ (instruction_operands c.with_memarg_lane.result) (ahead c.parse.new.parser) c.in-Ok.ensures.read (sym c.with_memarg_lane.ensures.operands) in
    subst (λ o. (operands o).reads ts ≡ Some (instruction_operands c.with_memarg_lane.result, ahead c.parse.new.parser)) (sym row) read

pub returns-in-Err-clause-read : goal.returns-in-Err-clause-read
returns-in-Err-clause-read c =
    let ts = ahead c.args.parser.now in
    let row = c.natural_alignment.ensures ∙ ap (λ n. Listed (MemLane n)) (sym c.from.ensures) in
    let refused = refused_as (λ x. MemoryLane x.0 x.1) (mem_arg_lane c.from.result) ts _ c.in-Err.ensures.read in
    subst (λ o. Refuses c.in-Err.e ((operands o).reads ts)) (sym row) refused
