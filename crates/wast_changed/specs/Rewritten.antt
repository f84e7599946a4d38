-- What becomes of the indices of whole fields, of its parts; expressions rewritten.
use Rattle.std.specs.Prelude.{ℕ, List, []}
use Rattle.wast_grammar.specs.Tokens.{Name}
use Rattle.wast_core_instr.specs.InstructionTree.{Instruction}
use Rattle.wast_fields.specs.FieldTree.{Expr, Function}
use Rattle.wast_meaning.specs.Changed.{Change, Changes, instrs_changed}

-- what becomes of the indices of an instruction, behind those that stand before it, the nearest first
abbrev pub ByPlace : Type 0
ByPlace = List (Instruction Name ℕ) → Instruction Name ℕ → Change Name ℕ

-- outside of instructions, in constant expressions and in functions
abbrev pub together : Change Name ℕ → ByPlace → (Function Name ℕ → ByPlace) → Changes Name ℕ
together outside in_constant in_function = record { outside = outside; in_constant = in_constant; in_function = in_function }

-- the same at every place
abbrev pub everywhere : Change Name ℕ → ByPlace
everywhere c before i = c

-- each instruction after those before it; the hints stay
abbrev pub expr_changed : ByPlace → Expr Name ℕ → Expr Name ℕ
expr_changed change e = record { instrs = instrs_changed change [] e.instrs; hints = e.hints }
