-- Labels as a stack.
use Rattle.std.proofs.Common.{◌≡◌, ℕ, zero, suc, List, [], ◌∷◌, drop, refl, sym, ◌∙◌, ap}
use Rattle.wasm_encoder_base.specs.Balanced.{Turn, Opens, Closes, Stays}
use Rattle.wast_field_syntax.specs.InstructionTree.{Instruction}
use Rattle.wast_meaning.specs.Scope.{turn_of_head, own_label, labels_left, labels_found, labels_from, open_labels, labels_seen, turned}

drop_more : {A : Type 0} (k : ℕ) (xs : List A) → drop k (drop 1 xs) ≡ drop (suc k) xs
drop_more zero [] = refl
drop_more (suc k) [] = refl
drop_more k (x ∷ xs) = refl

turned_drop : {A : Type 0} (turn : Turn) (label : A) (outside : ℕ → List A) (k : ℕ) → ((c : ℕ) → outside c ≡ drop c (outside 0)) →
    turned turn label k outside ≡ drop k (labels_left turn label (outside 0))
turned_drop Opens label outside zero same = refl
turned_drop Opens label outside (suc k) same = same k
turned_drop Closes label outside k same = same (suc k) ∙ sym (drop_more k (outside 0))
turned_drop Stays label outside k same = same k

-- where more openers are closed again, so many of the innermost are gone
pub fewer : {N P : Type 0} (before : List (Instruction N P)) (k : ℕ) → labels_from before k ≡ drop k (labels_from before 0)
fewer [] zero = refl
fewer [] (suc k) = refl
fewer (i ∷ before) k =
    turned_drop (turn_of_head i.head) (own_label i.operands) (labels_from before) k (fewer before)
    ∙ ap (drop k) (sym (turned_drop (turn_of_head i.head) (own_label i.operands) (labels_from before) 0 (fewer before)))

-- one more instruction
pub stacked : {N P : Type 0} (i : Instruction N P) (before : List (Instruction N P)) →
    open_labels (i ∷ before) ≡ labels_left (turn_of_head i.head) (own_label i.operands) (open_labels before)
stacked i before = turned_drop (turn_of_head i.head) (own_label i.operands) (labels_from before) 0 (fewer before)

-- those among which an instruction looks labels up
pub found_so : {N P : Type 0} (turn : Turn) (before : List (Instruction N P)) → labels_seen turn before ≡ labels_found turn (open_labels before)
found_so Opens before = refl
found_so Closes before = fewer before 1
found_so Stays before = refl
