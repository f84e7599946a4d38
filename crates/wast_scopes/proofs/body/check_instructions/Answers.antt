use Rattle.std.proofs.Common.{map, sym, ◌∙◌, ap}
use Rattle.wast_core_instr.specs.InstructionViews.{instruction_tree}
use Rattle.wast_names.specs.Walk.{first_unmet}
use Rattle.wast_names.specs.Demand.{is_met}
use Rattle.wast_names.proofs.Walk.{walk_more, walk_done, walked_map}
use Rattle.wast_names.proofs.Demands.{walk_refuses}
use Rattle.wast_meaning.specs.Scope.{labels_after}
use Rattle.wast_scopes.specs.Known.{instr_by, instrs_by}
use Rattle.wast_scopes.specs.Views.{known}
use Rattle.wast_scopes.proofs.Walks.{asks, goes}
use Rattle.wast_scopes.proofs.body.check_instructions.Goals as goal

pub returns : goal.returns
returns c =
    let k = known c.args.scope.now in
    let xs = c.args.instructions.now in
    ap (first_unmet is_met) (walked_map instruction_tree labels_after (instr_by k) c.args.labels.now xs)
    ∙ walk_done goes (asks k) is_met c.loop-instruction.labels xs c.loop-instruction.instruction-index _ c.loop-instruction-test.false c.loop-instruction.invariant

pub returns-in-Err : goal.returns-in-Err
returns-in-Err c =
    let k = known c.args.scope.now in
    let xs = c.args.instructions.now in
    let whole = walked_map instruction_tree labels_after (instr_by k) c.args.labels.now xs in
    walk_refuses goes (asks k) c.loop-instruction.labels xs c.loop-instruction.instruction-index c.instruction-item.result (instrs_by k c.args.labels.now (map instruction_tree xs)) c.in-Err.e
    c.loop-instruction-test.true c.instruction-item.is (c.loop-instruction.invariant ∙ ap (first_unmet is_met) (sym whole)) c.in-Err.ensures.answers

pub loop-instruction-preserved : goal.loop-instruction-preserved
loop-instruction-preserved c =
    let k = known c.args.scope.now in
    walk_more goes (asks k) is_met c.loop-instruction.labels c.check_instruction.new.labels c.args.instructions.now c.loop-instruction.instruction-index c.instruction-item.result _
    c.loop-instruction-test.true c.instruction-item.is c.in-Ok.ensures.answers c.in-Ok.ensures.labels c.loop-instruction.invariant
