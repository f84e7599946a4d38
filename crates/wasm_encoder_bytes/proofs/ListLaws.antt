-- Lists that are built item by item.
use Rattle.std.proofs.Common.{ℕ, ◌≡◌, ◌+◌, List, [], ◌∷◌, ◌++◌, length, ap, ◌∙◌, sym, flat_map, length-append, append-nil}
use Rattle.std.proofs.lemmas.Grind.{flat_map-append}
use Rattle.std.specs.List.{AllByRecursion}
use Rattle.wasm_encoder_bytes.specs.Lists.{listed, with_item, section_bytes}
use Rattle.wasm_encoder_bytes.specs.Unique.{Unique}
use Rattle.wasm_encoder_bytes.proofs.UniqueParts.{injective_of}
use Rattle.wasm_encoder_bytes.proofs.UniqueBytes.{unique_counted, unique_sized}

-- an item after a list of items
pub listed-last : {A : Type 0} (spell : A → List ℕ) (xs : List A) (x : A) → with_item (listed spell xs) (spell x) ≡ listed spell (xs ++ x ∷ [])
listed-last spell xs x =
    let count : length xs + 1 ≡ length (xs ++ x ∷ []) = sym (length-append xs (x ∷ [])) in
    let bytes : flat_map spell xs ++ spell x ≡ flat_map spell (xs ++ x ∷ []) = ap (λ r. flat_map spell xs ++ r) (sym (append-nil (spell x))) ∙ sym (flat_map-append spell xs (x ∷ [])) in
    λ i. record { count = count i; bytes = bytes i }

-- a section tells the lists of its items apart
pub unique_section : {A : Type 0} {P : A → Type 0} {spell : A → List ℕ} → Unique P spell → Unique (AllByRecursion P) (section_bytes spell)
unique_section u = unique_sized (injective_of (unique_counted u))
