use Rattle.std.proofs.Common.{◌≡◌, ◌≤◌, map, drop}
use Rattle.wast_core_instr.specs.InstructionViews.{instruction_tree}
use Rattle.wast_meaning.specs.WellFormed.{is_balanced}
use Rattle.wast_well_formed.proofs.expression.is_balanced.Given as goal

abbrev pub invariant-loop-instruction : goal.invariant-loop-instruction
invariant-loop-instruction l = record {
  balanced : is_balanced (map instruction_tree (drop l.instruction-index l.instructions)) l.open_blocks ≡ is_balanced (map instruction_tree l.instructions) 0;
  few : l.open_blocks ≤ l.instruction-index;
}
