use Rattle.std.proofs.Common.{◌≡◌, take}
use Rattle.wast_core_instr.specs.InstructionViews.{instruction_tree}
use Rattle.wast_meaning.specs.Mentions.{instr_mentions}
use Rattle.wast_names.specs.Walk.{reached}
use Rattle.wast_implied.specs.Known.{after_mentions}
use Rattle.wast_implied.specs.Views.{known}
use Rattle.wast_implied.proofs.gathered.Implied.add_instructions.Given as goal

abbrev pub invariant-loop-instruction : goal.invariant-loop-instruction
invariant-loop-instruction l = known l.self ≡ reached (λ k x. after_mentions l.fn.span k (instr_mentions (instruction_tree x))) (known l.fn.self) (take l.instruction-index l.instructions)
