-- All parts are formed exactly where a judge of whether they are refuses none.
use Rattle.std.proofs.Common.{◌≡◌, Bool, true, false, ◌&&◌, List, [], ◌∷◌, None, Some, refl}
use Rattle.std.specs.Prelude.{if◌then◌else◌}
use Rattle.std.specs.List.{flat_map, list_all}
use Rattle.wast_names.specs.Walk.{first_unmet}

module _ {D : Type 0} (holds : D → Bool) where
  pub all_hold : (ds : List D) → first_unmet holds (flat_map (λ d. d ∷ []) ds) ≡ None → true ≡ list_all holds ds
  all_hold [] = λ h. refl
  all_hold (d ∷ ds) =
      elim (holds d) as (λ b. (if b then first_unmet holds (flat_map (λ d. d ∷ []) ds) else Some d) ≡ None → true ≡ (b && list_all holds ds)) [
        | true ↦ all_hold ds
        | false ↦ λ h. cc
      ]

  pub one_fails : (ds : List D) → (first_unmet holds (flat_map (λ d. d ∷ []) ds) ≡ None → ⊥) → false ≡ list_all holds ds
  one_fails [] = λ h. absurd (h refl)
  one_fails (d ∷ ds) =
      elim (holds d) as (λ b. ((if b then first_unmet holds (flat_map (λ d. d ∷ []) ds) else Some d) ≡ None → ⊥) → false ≡ (b && list_all holds ds)) [
        | true ↦ one_fails ds
        | false ↦ λ h. refl
      ]
