use Rattle.std.proofs.Common.{◌≡◌, map, drop}
use Rattle.std.specs.List.{list_all}
use Rattle.wast_core_instr.specs.InstructionViews.{instruction_tree}
use Rattle.wast_meaning.specs.WellFormed.{is_aligned}
use Rattle.wast_well_formed.proofs.expression.are_aligned.Given as goal

abbrev pub invariant-loop-instruction : goal.invariant-loop-instruction
invariant-loop-instruction l = list_all (λ i. is_aligned i.operands) (map instruction_tree (drop l.instruction-index l.instructions)) ≡ list_all (λ i. is_aligned i.operands) (map instruction_tree l.instructions)
