-- The first item of fields of which none before has one.
use Rattle.std.proofs.Common.{◌≡◌, ℕ, zero, suc, ◌<◌, List, [], ◌∷◌, ◌++◌, map, length, take, sym, ap, ◌∙◌, arith}
use Rattle.std.specs.Prelude.{Some}
use Rattle.std.specs.List.{flat_map, slice_get, slice_index_or}
use Rattle.wast_conversions.proofs.Empty.{front, back}

first_at : {F T X : Type 0} (tree : F → T) (items : T → List X) (fs : List F) (k : ℕ) (d : F) (x : X) → k < length fs → flat_map items (map tree (take k fs)) ≡ []
    → items (tree (slice_index_or fs k d)) ≡ x ∷ [] → slice_get (flat_map items (map tree fs)) 0 ≡ Some x
first_at tree items [] k d x l none one = absurd (omega (arith, l))
first_at tree items (f ∷ fs) zero d x l none one = ap (λ xs. slice_get (xs ++ flat_map items (map tree fs)) 0) one
first_at tree items (f ∷ fs) (suc k) d x l none one =
    let here = front (items (tree f)) (flat_map items (map tree (take k fs))) none in
    let rest = back (items (tree f)) (flat_map items (map tree (take k fs))) none in
    ap (λ xs. slice_get (xs ++ flat_map items (map tree fs)) 0) here ∙ first_at tree items fs k d x (omega (arith, l)) rest one

pub first_item : {F T X : Type 0} (tree : F → T) (items : T → List X) (fs : List F) (k : ℕ) (f : F) (x : X) → k < length fs → f ≡ slice_index_or fs k f → flat_map items (map tree (take k fs)) ≡ []
    → items (tree f) ≡ x ∷ [] → slice_get (flat_map items (map tree fs)) 0 ≡ Some x
first_item tree items fs k f x l is none one = first_at tree items fs k f x l none (ap (λ g. items (tree g)) (sym is) ∙ one)
