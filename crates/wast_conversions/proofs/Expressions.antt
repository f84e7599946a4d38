-- The bytes of the instructions that are meant.
use Rattle.std.proofs.Common.{◌≡◌, ℕ, ◌+◌, ◌<◌, List, [], ◌∷◌, ◌++◌, map, take, length, All, slice_index_or, append-nil, sym, ap, ◌∙◌, subst}
use Rattle.std.specs.Prelude.{Result, Ok, Err}
use Rattle.std.specs.List.{flat_map}
use Rattle.std.proofs.lemmas.Grind.{flat_map-append}
use Rattle.std.proofs.lemmas.List.{take_more}
use Rattle.std.proofs.lemmas.List.Elements.{All-map}
use Rattle.std.proofs.lemmas.List.Folds.{flat_map-map}
use Rattle.wasm_encoder_base.specs.Encodes.{Encodes}
use Rattle.wasm_encoder_base.specs.EncodeError.{EncodeError}
use Rattle.wasm_encoder_base.specs.EncodeError.TheVariants.{TooLarge}
use Rattle.wasm_encoder_base.specs.Instr.{Instr, instr_bytes, counts_fit}
use Rattle.wasm_encoder_code.specs.Sink.{IsMade}
use Rattle.wasm_encoder_instr.specs.Instruction.{instr_view}
use Rattle.wasm_encoder_instr.specs.declared.instruction.Instruction.{Instruction}
use Rattle.wast_core_instr.specs.InstructionViews.{instruction_tree}
use Rattle.wast_core_instr.specs.declared.instruction.Instruction as tree
use Rattle.wast_conversions.specs.Instructions.{instr_meant, instrs_meant}
use Rattle.wast_conversions.specs.Rows.{bytes_meant, FitsMeant}
use Rattle.wast_conversions.proofs.Each.{each_of}

-- of an instruction that is the one that is meant
pub encodes_meant : (i : tree.Instruction) (j : Instruction) (before after : List ℕ) (r : Result (Unit {0}) EncodeError) → instr_view j ≡ instr_meant (instruction_tree i)
    → Encodes (instr_bytes (instr_view j)) (counts_fit (instr_view j).operands) before after r → Encodes (bytes_meant i) (FitsMeant i) before after r
unfolding bytes_meant FitsMeant
encodes_meant i j before after r e h = let P : Instr → Type 0 = λ k. Encodes (instr_bytes k) (counts_fit k.operands) before after r in subst P e h

abbrev AllBytes : List tree.Instruction → List ℕ
AllBytes is = flat_map instr_bytes (instrs_meant (map instruction_tree is))

abbrev AllFit : List tree.Instruction → Type 0
AllFit is = All (λ i. counts_fit i.operands) (instrs_meant (map instruction_tree is))

bytes_of : (is : List tree.Instruction) → AllBytes is ≡ flat_map bytes_meant is
unfolding bytes_meant
bytes_of is = flat_map-map instr_bytes instr_meant (map instruction_tree is) ∙ flat_map-map (λ i. instr_bytes (instr_meant i)) instruction_tree is

fit_of : (is : List tree.Instruction) → AllFit is → All FitsMeant is
unfolding FitsMeant
fit_of is h = each_of (λ i. counts_fit (instr_meant i).operands) instruction_tree is (each_of (λ i. counts_fit i.operands) instr_meant (map instruction_tree is) h)

fit_again : (is : List tree.Instruction) → All FitsMeant is → AllFit is
unfolding FitsMeant
fit_again is h =
    All-map (λ i. counts_fit i.operands) instr_meant (map instruction_tree is) (All-map (λ i. counts_fit (instr_meant i).operands) instruction_tree is h)

-- an expression of these bytes, or one that was refused
pub made_of : (is : List tree.Instruction) (bytes : List ℕ) (r : Result (List ℕ) EncodeError) → bytes ≡ flat_map bytes_meant is → All FitsMeant is
    → IsMade bytes (Unit {0}) r → IsMade (AllBytes is) (AllFit is) r
made_of is bytes (Ok made) e fits h = record { ok = h.ok ∙ e ∙ sym (bytes_of is); fit = fit_again is fits; too_large = λ t fit. h.too_large t tt }
made_of is bytes (Err x) e fits h = record { ok = tt; fit = tt; too_large = λ t fit. h.too_large t tt }

pub unmade : (is : List tree.Instruction) (x : EncodeError) → (x ≡ TooLarge → All FitsMeant is → ⊥) → IsMade (AllBytes is) (AllFit is) (Err x)
unmade is x h = record { ok = tt; fit = tt; too_large = λ t fit. let e : x ≡ TooLarge = cc in h e (fit_of is fit) }

-- the bytes of one more
pub more_bytes : (is : List tree.Instruction) (k : ℕ) (i : tree.Instruction) (before after : List ℕ) → k < length is → i ≡ slice_index_or is k i
    → before ≡ flat_map bytes_meant (take k is) → after ≡ before ++ bytes_meant i → after ≡ flat_map bytes_meant (take (k + 1) is)
more_bytes is k i before after l e h p =
    let j = slice_index_or is k i in
    let more = ap (flat_map bytes_meant) (take_more is k i l) ∙ flat_map-append bytes_meant (take k is) (j ∷ []) ∙ ap (λ b. flat_map bytes_meant (take k is) ++ b) (append-nil (bytes_meant j)) in
    p ∙ ap (λ b. b ++ bytes_meant i) h ∙ ap (λ x. flat_map bytes_meant (take k is) ++ bytes_meant x) e ∙ sym more
