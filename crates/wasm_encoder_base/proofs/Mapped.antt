-- Lists spelled through a view.
use Rattle.std.proofs.Common.{ℕ, suc, ◌≡◌, List, [], ◌∷◌, ◌++◌, length, map, refl, ap, ◌∙◌, flat_map}
use Rattle.wasm_encoder_bytes.specs.Leb.{uleb}
use Rattle.wasm_encoder_bytes.specs.Bytes.{counted}

length_view : {A B : Type 0} (view : A → B) (xs : List A) → length xs ≡ length (map view xs)
length_view view [] = refl
length_view view (x ∷ xs) = ap suc (length_view view xs)

items_view : {A B : Type 0} (view : A → B) (spell : B → List ℕ) (xs : List A) → flat_map (λ x. spell (view x)) xs ≡ flat_map spell (map view xs)
items_view view spell [] = refl
items_view view spell (x ∷ xs) = ap (λ r. spell (view x) ++ r) (items_view view spell xs)

pub counted_view : {A B : Type 0} (view : A → B) (spell : B → List ℕ) (xs : List A) → counted (λ x. spell (view x)) xs ≡ counted spell (map view xs)
counted_view view spell xs = ap (λ n. uleb n ++ flat_map (λ x. spell (view x)) xs) (length_view view xs) ∙ ap (λ r. uleb (length (map view xs)) ++ r) (items_view view spell xs)
