-- The laws of the expressions in fields.
use Rattle.std.specs.Prelude.{codes}
use Rattle.wast_parser.specs.Lawful.{Lawful}
use Rattle.wast_expressions.proofs.ExpressionLaws.{expression_laws, led_or_plain_laws, data_offset_laws}
use Rattle.wast_core_instr.specs.InstructionSyntax.{instruction}
use Rattle.wast_core_instr.specs.InstructionGroups.{instruction_heads, instruction_made}
use Rattle.wast_core_instr.proofs.InstructionLaws.{instruction_but}
use Rattle.wast_core_instr.proofs.GroupLaws.{instruction_heeds}
use Rattle.wast_field_syntax.specs.DefinitionSyntax.{expr, element, elem_offset, segment_offset}

module _ {N P : Type 0} where
  pub expr_laws : Lawful (expr {N = N} {P = P})
  expr_laws = expression_laws instruction instruction_heads instruction_but instruction_heeds instruction_made

  pub element_laws : Lawful (element {N = N} {P = P})
  element_laws = led_or_plain_laws instruction instruction_heads instruction_but instruction_heeds instruction_made (codes "item") (instruction_heeds {N = N} {P = P}).no_item

  pub elem_offset_laws : Lawful (elem_offset {N = N} {P = P})
  elem_offset_laws = led_or_plain_laws instruction instruction_heads instruction_but instruction_heeds instruction_made (codes "offset") (instruction_heeds {N = N} {P = P}).no_offset

  pub segment_offset_laws : Lawful (segment_offset {N = N} {P = P})
  segment_offset_laws = data_offset_laws instruction instruction_heads instruction_but instruction_heeds instruction_made
