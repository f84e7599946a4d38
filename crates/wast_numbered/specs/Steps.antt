-- What instructions do to the blocks that are open, and the labels of those.
use Rattle.std.specs.Prelude.{ℕ, List, ◌∷◌, Option, option_map}
use Rattle.wasm_encoder_base.specs.Balanced.{Turn, Opens}
use Rattle.wast_grammar.specs.Tokens.{Name}
use Rattle.wast_parser.specs.Identifiers.{Named, identifier_tree}
use Rattle.wast_core_instr.specs.InstructionTree.{Instruction}
use Rattle.wast_meaning.specs.Scope.{turn_of_head, own_label}
use Rattle.wast_well_formed.specs.Views.{turn_view}
use Rattle.wast_numbered.specs.declared.step.Step.{Step}

abbrev pub step_view : Step → Turn × Option (Named Name ℕ)
step_view s = (turn_view s.turn, option_map identifier_tree s.label)

abbrev pub step_of : Instruction Name ℕ → Turn × Option (Named Name ℕ)
step_of i = (turn_of_head i.head, own_label i.operands)

-- the labels behind an instruction, of those among which it looks labels up
abbrev pub behind : {A : Type 0} → Turn → A → List A → List A
behind Opens label labels = label ∷ labels
behind _ label labels = labels
