-- What the grammar sees of expressions.
use Rattle.std.specs.Prelude.{ℕ, map}
use Rattle.wast_typed_operands.specs.Tokens.{Name}
use Rattle.wast_expressions.specs.Items as items
use Rattle.wast_expressions.specs.Partial.{hint_tree}
use Rattle.wast_core_instr.specs.InstructionTree as spec
use Rattle.wast_core_instr.specs.InstructionViews.{instruction_tree}
use Rattle.wast_core_instr.specs.declared.expression.Expression.{Expression}

abbrev pub expression_tree : Expression → items.Expression (spec.Instruction Name ℕ)
expression_tree e = record { instrs = map instruction_tree e.instrs.items; hints = map hint_tree e.branch_hints.items }
