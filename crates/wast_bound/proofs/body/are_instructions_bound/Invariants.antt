use Rattle.std.proofs.Common.{◌≡◌, [], map}
use Rattle.wast_grammar.specs.Spelling.{same_name}
use Rattle.wast_core_instr.specs.InstructionViews.{instruction_tree}
use Rattle.wast_meaning.specs.Demands.{instr_demands, instrs_demands}
use Rattle.wast_bound.specs.Bound.{are_kept}
use Rattle.wast_bound.proofs.Walked.{left}
use Rattle.wast_bound.proofs.body.are_instructions_bound.Given as goal

abbrev pub invariant-loop-index : goal.invariant-loop-index
invariant-loop-index g l =
    let s = g.K.Known.scope l.known in
    left instruction_tree (instr_demands same_name s) l.instructions l.index ≡ are_kept (instrs_demands same_name s [] (map instruction_tree l.instructions))
