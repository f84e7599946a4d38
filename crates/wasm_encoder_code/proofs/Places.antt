-- Where the instructions of a body begin.
use Rattle.std.proofs.Common.{ℕ, zero, suc, ◌≡◌, ◌+◌, List, [], ◌∷◌, ◌++◌, length, take, drop, refl, ap, ◌∙◌, append_assoc, flat_map, length-append}
use Rattle.std.proofs.Math.Seq.{drop-append-add}
use Rattle.wasm_encoder_base.specs.Instr.{instr_bytes, expr_bytes}
use Rattle.wasm_encoder_code.specs.Body.{locals_bytes}
use Rattle.wasm_encoder_code.specs.Laws.{PlaceBegins}

-- the bytes of items from one on
pub past_items : {A : Type 0} (spell : A → List ℕ) (xs : List A) (k : ℕ) (after : List ℕ) → drop (length (flat_map spell (take k xs))) (flat_map spell xs ++ after) ≡ flat_map spell (drop k xs) ++ after
past_items spell xs zero after = refl
past_items spell [] (suc k) after = refl
past_items spell (x ∷ xs) (suc k) after =
    ap (λ l. drop l ((spell x ++ flat_map spell xs) ++ after)) (length-append (spell x) (flat_map spell (take k xs)))
    ∙ ap (drop (length (spell x) + length (flat_map spell (take k xs)))) (append_assoc (spell x) (flat_map spell xs) after)
    ∙ drop-append-add (spell x) (flat_map spell xs ++ after) (length (flat_map spell (take k xs)))
    ∙ past_items spell xs k after

pub places : PlaceBegins
places b k = drop-append-add (locals_bytes b.locals) (expr_bytes b.instructions) (length (flat_map instr_bytes (take k b.instructions))) ∙ past_items instr_bytes b.instructions k (0x0B ∷ [])
