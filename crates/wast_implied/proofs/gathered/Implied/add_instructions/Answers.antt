use Rattle.wast_core_instr.specs.InstructionViews.{instruction_tree}
use Rattle.wast_meaning.specs.Mentions.{instr_mentions}
use Rattle.wast_implied.specs.Known.{after_mentions}
use Rattle.wast_implied.specs.Views.{known}
use Rattle.wast_implied.proofs.Steps.{step, finish}
use Rattle.wast_implied.proofs.gathered.Implied.add_instructions.Goals as goal

pub loop-instruction-preserved : goal.loop-instruction-preserved
loop-instruction-preserved c =
    step (λ k x. after_mentions c.args.span k (instr_mentions (instruction_tree x))) (known c.args.self.now) (known c.loop-instruction.self) (known c.add_instruction.new.self) c.args.instructions.now c.loop-instruction.instruction-index c.instruction-item.result
    c.loop-instruction-test.true c.instruction-item.is c.loop-instruction.invariant c.in_ok-add_instruction.ensures

pub returns : goal.returns
returns c = finish instruction_tree instr_mentions c.args.span (known c.args.self.now) (known c.loop-instruction.self) c.args.instructions.now c.loop-instruction.instruction-index c.loop-instruction-test.false c.loop-instruction.invariant
