-- Sections that are built field by field.
use Rattle.std.proofs.Common.{◌≡◌, ℕ, zero, suc, ◌<◌, ◌^◌, List, [], ◌∷◌, map, length, take, sym, ap, ◌∙◌, subst, arith}
use Rattle.std.specs.Prelude.{Result, Err}
use Rattle.std.specs.List.{flat_map, AllByRecursion, slice_index_or}
use Rattle.std.proofs.lemmas.List.Folds.{flat_map-map, length-flat_map-take}
use Rattle.wasm_encoder_base.specs.EncodeError.{EncodeError}
use Rattle.wasm_encoder_base.specs.EncodeError.TheVariants.{TooLarge}
use Rattle.wasm_encoder_base.specs.Lists.{Listed, listed}
use Rattle.wasm_layout.proofs.Joined.{all_front, all_back}
use Rattle.wast_section_items.specs.Appends.{Appends}
use Rattle.wast_sections.specs.Holds.{Holds, map_ok}

module _ {A : Type 0} (spell : A → List ℕ) (Fits Sound : A → Type 0) where
  -- what a section holds that is built so far
  pub record HoldsSoFar (items : List A) (section : Listed) : Type 0 where
    pub holds : section ≡ listed spell items
    pub count : length items < 2 ^ 32
    pub fit : AllByRecursion Fits items
    pub sound : AllByRecursion Sound items

  -- the items of one of these fields
  fit_at : {F : Type 0} (items : F → List A) (fs : List F) (k : ℕ) (d : F) → k < length fs → AllByRecursion Fits (flat_map items fs) → AllByRecursion Fits (items (slice_index_or fs k d))
  fit_at items [] k d l h = absurd (omega (arith, l))
  fit_at items (f ∷ fs) zero d l h = all_front Fits (items f) (flat_map items fs) h
  fit_at items (f ∷ fs) (suc k) d l h = fit_at items fs k d (omega (arith, l)) (all_back Fits (items f) (flat_map items fs) h)

  -- where those of one field are too large, those of all are
  pub too_large_at : {F T : Type 0} (tree : F → T) (items : T → List A) (fs : List F) (k : ℕ) (f : F) (before after : Listed) (r : Result (Unit {0}) EncodeError) (e : EncodeError) → k < length fs
      → f ≡ slice_index_or fs k f → r ≡ Err e → HoldsSoFar (flat_map items (map tree (take k fs))) before → Appends spell Fits Sound (items (tree f)) before after r
      → e ≡ TooLarge → length (flat_map items (map tree fs)) < 2 ^ 32 → AllByRecursion Fits (flat_map items (map tree fs)) → ⊥
  too_large_at tree items fs k f before after r e l is was h a t n fit =
      let of : _ = λ g. items (tree g) in
      let count : before.count ≡ length (flat_map of (take k fs)) = ap (λ s. s.count) h.holds ∙ ap length (flat_map-map items tree (take k fs)) in
      let all : length (flat_map of fs) < 2 ^ 32 = subst (λ xs. length xs < 2 ^ 32) (flat_map-map items tree fs) n in
      let same : length (items (tree f)) ≡ length (items (tree (slice_index_or fs k f))) = ap (λ g. length (items (tree g))) is in
      let fits : AllByRecursion Fits (items (tree f)) = subst (λ g. AllByRecursion Fits (items (tree g))) (sym is) (fit_at of fs k f l (subst (AllByRecursion Fits) (flat_map-map items tree fs) fit)) in
      a.too_large (was ∙ ap Err t) (omega (arith, count, all, same, length-flat_map-take of fs k f l)) fits

  -- the section of a list that was refused
  pub refused : {S : Type 0} (seen : S → Listed) (all : List A) (e : EncodeError) → (e ≡ TooLarge → length all < 2 ^ 32 → AllByRecursion Fits all → ⊥) → Holds spell Fits Sound all (map_ok seen (Err e))
  refused seen all e h = record { ok = tt; count = tt; fit = tt; sound = tt; too_large = λ t. h cc }
