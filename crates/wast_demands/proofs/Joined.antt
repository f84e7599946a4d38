-- The demands of fields, joined of those of their parts, and of the tests one after the other.
use Rattle.std.proofs.Common.{◌≡◌, ℕ, List, [], ◌∷◌, ◌++◌, None, Result, Ok, Err, refl, sym, ◌∙◌, ap, subst, append-nil}
use Rattle.std.specs.List.{flat_map}
use Rattle.std.proofs.lemmas.Grind.{flat_map-append}
use Rattle.wast_grammar.specs.Tokens.{Name}
use Rattle.wast_parser.specs.Problem.{Problem}
use Rattle.wast_names.specs.Walk.{first_unmet}
use Rattle.wast_names.specs.Demand.{Demand, is_met, Refuses, Answers}
use Rattle.wast_names.proofs.Walk.{unmet_after}
use Rattle.wast_names.proofs.Demands.{refuses_second}
use Rattle.wast_module_fields.specs.FieldTree.{Field}
use Rattle.wast_meaning.specs.Mentions.{Part, parts}
use Rattle.wast_mentions.specs.Judging.{Judged}
use Rattle.wast_scopes.specs.Views.{Refused}

-- ONE PART
pub judged_one : {T : Type 0} (r : Result T Problem) (asks : Part Name ℕ → List (Demand Name ℕ)) (p : Part Name ℕ) → Answers r (asks p) → Judged asks is_met Refused r (p ∷ [])
judged_one (Ok x) asks p h = ap (first_unmet is_met) (append-nil (asks p)) ∙ h
judged_one (Err e) asks p h = subst (λ ds. Refuses ds e) (sym (append-nil (asks p))) h

-- ALL PARTS: the same demands, told in the same order
pub answers_all : {T : Type 0} (r : Result T Problem) (asks : Part Name ℕ → List (Demand Name ℕ)) (ps : List (Part Name ℕ)) (ds : List (Demand Name ℕ))
    → flat_map asks ps ≡ ds → Judged asks is_met Refused r ps → Answers r ds
answers_all (Ok x) asks ps ds e h = ap (first_unmet is_met) (sym e) ∙ h
answers_all (Err f) asks ps ds e h = subst (λ l. Refuses l f) e h

module _ {D : Type 0} (asks told : Part Name ℕ → List D) (same : (p : Part Name ℕ) → asks p ≡ told p) where
  each_part : (ps : List (Part Name ℕ)) → flat_map asks ps ≡ flat_map told ps
  each_part [] = refl
  each_part (p ∷ ps) = ap (λ ds. ds ++ flat_map asks ps) (same p) ∙ ap (λ ds. told p ++ ds) (each_part ps)

  pub each_field : (fs : List (Field Name ℕ)) → flat_map asks (flat_map parts fs) ≡ flat_map (λ f. flat_map told (parts f)) fs
  each_field [] = refl
  each_field (f ∷ fs) =
      flat_map-append asks (parts f) (flat_map parts fs)
      ∙ ap (λ ds. ds ++ flat_map asks (flat_map parts fs)) (each_part (parts f))
      ∙ ap (λ ds. flat_map told (parts f) ++ ds) (each_field fs)

-- ONE TEST, THEN ANOTHER
pub answers_then : {T : Type 0} (r : Result T Problem) (ds es : List (Demand Name ℕ)) → first_unmet is_met ds ≡ None → Answers r es → Answers r (ds ++ es)
answers_then (Ok x) ds es met h = unmet_after is_met ds es met ∙ h
answers_then (Err e) ds es met h = refuses_second ds es e met h
