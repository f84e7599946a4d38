-- Instructions that are rewritten alike everywhere are rewritten one by one.
use Rattle.std.proofs.Common.{◌≡◌, ℕ, List, [], ◌∷◌, map, refl, ap}
use Rattle.wast_grammar.specs.Tokens.{Name}
use Rattle.wast_core_instr.specs.InstructionTree.{Instruction}
use Rattle.wast_meaning.specs.Changed.{Change, instr_changed, instrs_changed}
use Rattle.wast_changed.specs.Rewritten.{everywhere}

pub one_by_one : (c : Change Name ℕ) (before is : List (Instruction Name ℕ)) → instrs_changed (everywhere c) before is ≡ map (instr_changed c) is
one_by_one c before [] = refl
one_by_one c before (i ∷ is) = ap (λ l. instr_changed c i ∷ l) (one_by_one c (i ∷ before) is)
