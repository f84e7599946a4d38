-- Lists of demands: those that aren't met, and the first of them.
use Rattle.std.proofs.Common.{◌≡◌, Bool, true, false, List, [], ◌∷◌, ◌++◌, Option, Some, None, refl, sym, ◌∙◌, ap}
use Rattle.std.specs.Prelude.{◌&&◌, not, filter, if◌then◌else◌}
use Rattle.std.specs.List.{list_all}
use Rattle.std.specs.Cmp.Derive.{both_true}
use Rattle.std.specs.Option.{option_or}
use Rattle.std.proofs.lemmas.Bool.{or_right}
use Rattle.std.proofs.lemmas.List.Elements.{filter-append}
use Rattle.std.proofs.lemmas.Option.{none-some}
use Rattle.wast_names.specs.Walk.{first_unmet}
use Rattle.wast_names.specs.Demand.{Complaint, Duplicate, Unknown, ImportAfter, TypeMismatch, LabelMismatch, Demand, is_met}
use Rattle.wast_meaning.specs.WellFormed.{is_bound, are_bound}
use Rattle.wast_meaning.proofs.Settled.{left, right, two}

module _ {N P : Type 0} where
  abbrev pub isnt_met : Demand N P → Bool
  isnt_met d = not (is_met d)

  abbrev pub unmet : List (Demand N P) → List (Demand N P)
  unmet ds = filter isnt_met ds

  -- the same are not met
  abbrev pub Alike : List (Demand N P) → List (Demand N P) → Type 0
  Alike ds es = unmet ds ≡ unmet es

  pub alike_joined : (a b x y : List (Demand N P)) → Alike a x → Alike b y → Alike (a ++ b) (x ++ y)
  alike_joined a b x y g h = filter-append isnt_met a b ∙ two (λ p q. p ++ q) g h ∙ sym (filter-append isnt_met x y)

  -- one that is met makes no difference
  pub met_more : (d : Demand N P) → is_met d ≡ true → Alike (d ∷ []) []
  met_more d e = ap (λ b. if not b then d ∷ [] else []) e

  abbrev first_of : List (Demand N P) → Option (Demand N P)
  first_of [] = None
  first_of (d ∷ ds) = Some d

  first_kept : (ds : List (Demand N P)) → first_unmet is_met ds ≡ first_of (unmet ds)
  first_kept [] = refl
  first_kept (d ∷ ds) = by_case (is_met d) (first_kept ds)
    where
      by_case : (b : Bool) → first_unmet is_met ds ≡ first_of (unmet ds) → (if b then first_unmet is_met ds else Some d) ≡ first_of (if not b then d ∷ unmet ds else unmet ds)
      by_case true rest = rest
      by_case false rest = refl

  pub same_first : (ds es : List (Demand N P)) → Alike ds es → first_unmet is_met ds ≡ first_unmet is_met es
  same_first ds es e = first_kept ds ∙ ap first_of e ∙ sym (first_kept es)

  first_joined : (ds es : List (Demand N P)) → first_unmet is_met (ds ++ es) ≡ option_or (first_unmet is_met ds) (first_unmet is_met es)
  first_joined [] es = refl
  first_joined (d ∷ ds) es = by_case (is_met d) (first_joined ds es)
    where
      by_case : (b : Bool) → first_unmet is_met (ds ++ es) ≡ option_or (first_unmet is_met ds) (first_unmet is_met es) →
          (if b then first_unmet is_met (ds ++ es) else Some d) ≡ option_or (if b then first_unmet is_met ds else Some d) (first_unmet is_met es)
      by_case true rest = rest
      by_case false rest = refl

  -- where none is unmet, all are met, and the other way round
  pub all_met : (ds : List (Demand N P)) → first_unmet is_met ds ≡ None → list_all is_met ds ≡ true
  all_met [] e = refl
  all_met (d ∷ ds) e = by_case (is_met d) e (all_met ds)
    where
      by_case : (b : Bool) → (if b then first_unmet is_met ds else Some d) ≡ None → (first_unmet is_met ds ≡ None → list_all is_met ds ≡ true) → (b && list_all is_met ds) ≡ true
      by_case true h rest = rest h
      by_case false h rest = elim (none-some d (sym h)) [ ]

  pub none_unmet : (ds : List (Demand N P)) → list_all is_met ds ≡ true → first_unmet is_met ds ≡ None
  none_unmet [] e = refl
  none_unmet (d ∷ ds) e =
      ap (λ b. if b then first_unmet is_met ds else Some d) (left (is_met d) (list_all is_met ds) e) ∙ none_unmet ds (right (is_met d) (list_all is_met ds) e)

  -- more demands behind, which are met where the others are
  pub first_same : (new old more : List (Demand N P)) → Alike new old → (list_all is_met old ≡ true → list_all is_met more ≡ true) → first_unmet is_met (new ++ more) ≡ first_unmet is_met old
  first_same new old more e h = first_joined new more ∙ ap (λ o. option_or o (first_unmet is_met more)) (same_first new old e) ∙ by_case (first_unmet is_met old) refl
    where
      by_case : (o : Option (Demand N P)) → first_unmet is_met old ≡ o → option_or o (first_unmet is_met more) ≡ o
      by_case None f = none_unmet more (h (all_met old f))
      by_case (Some d) f = refl

-- NAMES that are made are bound where all demands are met
bound_if : {N : Type 0} (is_made : N → Bool) (c : Complaint N) (holds : Bool) → holds ≡ true → is_bound is_made c holds ≡ true
bound_if is_made (Unknown kind n) holds e = or_right (not (is_made n)) holds e
bound_if is_made (Duplicate kind) holds e = refl
bound_if is_made (ImportAfter kind) holds e = refl
bound_if is_made TypeMismatch holds e = refl
bound_if is_made LabelMismatch holds e = refl

module _ {N P : Type 0} (eq : N → N → Bool) (is_made : N → Bool) where
  pub all_bound : (ds : List (Demand N P)) → list_all is_met ds ≡ true → are_bound eq is_made ds ≡ true
  all_bound [] e = refl
  all_bound (d ∷ ds) e = both_true (bound_if is_made d.complaint d.holds (left (is_met d) (list_all is_met ds) e)) (all_bound ds (right (is_met d) (list_all is_met ds) e))
