-- The walk over the code's instructions.
use Rattle.std.proofs.Common.{ℕ, List}
use Rattle.wast_grammar.specs.Tokens.{Name}
use Rattle.wast_names.specs.Demand.{Demand}
use Rattle.wast_core_instr.specs.InstructionViews.{instruction_tree}
use Rattle.wast_core_instr.specs.declared.instruction.Instruction.{Instruction}
use Rattle.wast_meaning.specs.Scope.{labels_after}
use Rattle.wast_scopes.specs.Known.{Known, Labelled, instr_by}

abbrev pub asks : Known → Labelled → Instruction → List (Demand Name ℕ)
asks k labels x = instr_by k labels (instruction_tree x)

abbrev pub goes : Labelled → Instruction → Labelled
goes labels x = labels_after labels (instruction_tree x)
