-- Fields written out one after the other, with a counter for the fresh names.
use Rattle.std.proofs.Common.{ℕ, suc, ◌+◌, ◌≡◌, List, [], ◌∷◌, ◌++◌, if◌then◌else◌, refl, sym, ap, ◌∙◌}
use Rattle.wast_field_syntax.specs.FieldTree.{Field}
use Rattle.wast_meaning.specs.Written.{field_out, written_from, written_out, takes_name, by_counter}

abbrev pub next : {N P : Type 0} → ℕ → Field N P → ℕ
next n f = if takes_name f then n + 1 else n

abbrev pub counted : {N P : Type 0} → (ℕ → N) → ℕ → List (Field N P) → List (Field N P)
counted made n [] = []
counted made n (f ∷ fs) = field_out (made n) f ++ counted made (next n f) fs

shifted : {N P : Type 0} (naming : ℕ → N) (k : ℕ) (fs : List (Field N P)) → written_from naming (suc k) fs ≡ written_from (λ i. naming (suc i)) k fs
shifted naming k [] = refl
shifted naming k (f ∷ fs) = ap (λ v. field_out (naming (suc k)) f ++ v) (shifted naming (suc k) fs)

pub counted_out : {N P : Type 0} (made : ℕ → N) (n : ℕ) (fs : List (Field N P)) → counted made n fs ≡ written_out (by_counter made n fs) fs
counted_out made n [] = refl
counted_out made n (f ∷ fs) = ap (λ v. field_out (made n) f ++ v) (counted_out made (next n f) fs ∙ sym (shifted (by_counter made n (f ∷ fs)) 0 fs))
