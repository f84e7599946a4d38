use Rattle.std.proofs.Common.{[], map, ◌∙◌, ap}
use Rattle.wast_grammar.specs.Spelling.{same_name}
use Rattle.wast_core_instr.specs.InstructionViews.{instruction_tree}
use Rattle.wast_meaning.specs.Demands.{instrs_demands}
use Rattle.wast_bound.specs.Bound.{are_kept}
use Rattle.wast_bound.proofs.body.is_expression_bound.Goals as goal

pub returns : goal.returns
returns g c = c.are_instructions_bound.ensures ∙ ap (λ is. are_kept (instrs_demands same_name (g.K.Known.scope c.args.known) [] (map instruction_tree is))) c.deref.ensures.value
