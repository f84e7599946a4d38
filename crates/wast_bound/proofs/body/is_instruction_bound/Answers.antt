use Rattle.std.proofs.Common.{◌∙◌}
use Rattle.wast_grammar.specs.Spelling.{same_name}
use Rattle.wast_core_instr.specs.InstructionViews.{instruction_tree}
use Rattle.wast_meaning.specs.Demands.{mention_demands}
use Rattle.wast_meaning.specs.Mentions.{instr_mentions}
use Rattle.wast_bound.proofs.Kept.{judged_all}
use Rattle.wast_bound.proofs.body.is_instruction_bound.Goals as goal

pub returns : goal.returns
returns g c = c.is_ok.ensures.value ∙ judged_all (mention_demands same_name (g.K.Known.scope c.args.known)) c.tell.result (instr_mentions (instruction_tree c.args.instruction.now)) c.tell.ensures
