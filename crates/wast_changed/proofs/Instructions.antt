-- Instructions without a type use.
use Rattle.std.proofs.Common.{◌≡◌, false, refl}
use Rattle.wast_core_instr.specs.declared.instruction.Instruction.{Instruction}
use Rattle.wast_core_instr.specs.declared.instruction.Instruction.TheVariants as instructions
use Rattle.wast_changed.specs.Instructions.{has_type_use}

-- no value of a variant
abbrev pub IsNot : {A B : Type 0} → (A → B) → B → Type 0
IsNot {A} variant y = (x : A) → y ≡ variant x → ⊥

pub without_type_use : (i : Instruction) → IsNot instructions.Block i → IsNot instructions.Loop i → IsNot instructions.If i → IsNot instructions.Try i → IsNot instructions.TryTable i
    → IsNot instructions.CallIndirect i → IsNot instructions.ReturnCallIndirect i → has_type_use i ≡ false
without_type_use (instructions.Block x) a b c d e f g = absurd (a x refl)
without_type_use (instructions.Loop x) a b c d e f g = absurd (b x refl)
without_type_use (instructions.If x) a b c d e f g = absurd (c x refl)
without_type_use (instructions.Try x) a b c d e f g = absurd (d x refl)
without_type_use (instructions.TryTable x) a b c d e f g = absurd (e x refl)
without_type_use (instructions.CallIndirect x) a b c d e f g = absurd (f x refl)
without_type_use (instructions.ReturnCallIndirect x) a b c d e f g = absurd (g x refl)
without_type_use i a b c d e f g = refl
