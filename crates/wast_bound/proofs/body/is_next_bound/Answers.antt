use Rattle.std.proofs.Common.{◌∙◌}
use Rattle.wast_core_instr.specs.InstructionViews.{instruction_tree}
use Rattle.wast_bound.proofs.Walked.{asked_alike}
use Rattle.wast_bound.proofs.body.is_next_bound.Goals as goal

pub returns : goal.returns
returns g c = λ place at.
    c.is_instruction_bound.ensures
    ∙ asked_alike g.I.Opens.tree (g.K.Known.scope c.args.known) (instruction_tree c.args.instruction.now) c.args.instructions.now c.args.index c.index-instructions-index.result place c.requires c.index-instructions-index.is at
