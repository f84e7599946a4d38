use Rattle.std.proofs.Common.{[], map, sym, ◌∙◌}
use Rattle.wast_core_instr.specs.InstructionViews.{instruction_tree}
use Rattle.wast_changed_fields.proofs.Everywhere.{one_by_one}
use Rattle.wast_changed_fields.proofs.expression.change_instructions.Goals as goal

pub returns : goal.returns
returns g c = c.in_ok-try_turn_list.ensures ∙ sym (one_by_one (g.C.Changing.change c.args.change.now) [] (map instruction_tree c.args.instrs.now))
