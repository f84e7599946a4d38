use Rattle.wast_expressions.proofs.ExpressionLaws.{expression_laws}
use Rattle.wast_core_instr.specs.InstructionSyntax.{instruction}
use Rattle.wast_core_instr.specs.InstructionGroups.{instruction_heads, instruction_made}
use Rattle.wast_core_instr.proofs.expression.ExpressionMeaning.lawful.Goals as goal

pub returns : goal.returns
returns c = expression_laws instruction instruction_heads c.lawful.ensures c.heeds.ensures instruction_made
