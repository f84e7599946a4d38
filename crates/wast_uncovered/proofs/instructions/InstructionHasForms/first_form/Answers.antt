use Rattle.std.proofs.Common.{sym, ◌∙◌}
use Rattle.wast_uncovered.proofs.Told.{told_first}
use Rattle.wast_uncovered.proofs.instructions.InstructionHasForms.first_form.Goals as goal

pub returns : goal.returns
returns c = c.instruction_form.ensures ∙ sym (told_first c.args.self.now)
