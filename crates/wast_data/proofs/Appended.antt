-- Bytes of integers, and of vectors, one after the other.
use Rattle.std.proofs.Common.{◌≡◌, ℕ, List, [], ◌∷◌, ◌++◌, map, Option, Some, refl, ◌∙◌, ap, sym}
use Rattle.std.specs.List.{flat_map}
use Rattle.std.proofs.lemmas.List.Concat.{flat_map-cons}
use Rattle.wast_parser.specs.Spelling.{◌>>=◌}
use Rattle.wast_vector_operands.specs.VectorTree.{Vector}
use Rattle.wast_data.specs.DataTree.{vectors_bytes}

-- these bytes before those of vectors, where they have some
abbrev pub with_bytes : List ℕ → List Vector → Option (List ℕ)
with_bytes bytes vs = vectors_bytes vs >>= λ more. Some (bytes ++ more)

-- the bytes of integers, by what the grammar sees of them
pub seen_bytes : {A B : Type 0} (tree : A → B) (own : A → List ℕ) (bytes : B → List ℕ) → ((a : A) → bytes (tree a) ≡ own a) → (xs : List A) → flat_map bytes (map tree xs) ≡ flat_map own xs
seen_bytes tree own bytes same [] = refl
seen_bytes tree own bytes same (x ∷ xs) =
    flat_map-cons bytes (tree x) (map tree xs)
    ∙ ap (λ b. b ++ flat_map bytes (map tree xs)) (same x)
    ∙ ap (λ b. own x ++ b) (seen_bytes tree own bytes same xs)
    ∙ sym (flat_map-cons own x xs)
