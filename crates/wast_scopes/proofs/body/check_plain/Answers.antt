use Rattle.wast_core_instr.specs.InstructionViews.{instruction_tree}
use Rattle.wast_meaning.specs.Mentions.{instr_mentions}
use Rattle.wast_scopes.specs.Known.{mention_by, with_labels}
use Rattle.wast_scopes.specs.Views.{known}
use Rattle.wast_scopes.proofs.Judged.{answers_all}
use Rattle.wast_scopes.proofs.body.check_plain.Goals as goal

pub returns : goal.returns
returns c = answers_all (mention_by (with_labels (known c.args.scope.now) c.args.labels.now c.args.labels.now)) c.tell.result (instr_mentions (instruction_tree c.args.instruction.now)) c.tell.ensures
