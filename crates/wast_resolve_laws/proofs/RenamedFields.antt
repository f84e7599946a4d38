-- Demands and numbers of fields that are renamed.
use Rattle.std.proofs.Common.{◌≡◌, ℕ, Bool, true, false, List, [], ◌∷◌, map, Option, Some, refl, sym, ◌∙◌, ap}
use Rattle.std.specs.Prelude.{if◌then◌else◌, option_map}
use std.Equiv.{Iso}
use Rattle.wasm_encoder_base.specs.Table.{Space}
use Rattle.wast_grammar.specs.Tokens.{Name}
use Rattle.wast_grammar.specs.Spelling.{same_name}
use Rattle.wast_grammar.specs.Alike.{Keeps}
use Rattle.wast_grammar.proofs.Decide.{names_decide}
use Rattle.wast_grammar.proofs.Extend.{injective}
use Rattle.wast_names.specs.Walk.{first_unmet}
use Rattle.wast_names.specs.Demand.{Demand, Complaint, Duplicate, Unknown, ImportAfter, TypeMismatch, LabelMismatch, is_met}
use Rattle.wast_field_syntax.specs.FieldTree.{Field}
use Rattle.wast_meaning.specs.Spaces.{denotes}
use Rattle.wast_meaning.specs.Demands.{demands, all_demands}
use Rattle.wast_meaning.specs.Numbered.{numbered, resolved}
use Rattle.wast_resolve_laws.specs.Renamed.{FieldList, fields_renamed, complaint_renamed, demand_renamed, renamed}
use Rattle.wast_resolve_laws.proofs.Renamed.{free, renamed_so}

-- DEMANDS are renamed one by one
complaint_still : {N : Type 0} (c : Complaint N) → complaint_renamed (λ n. n) c ≡ c
complaint_still (Duplicate kind) = refl
complaint_still (Unknown kind n) = refl
complaint_still (ImportAfter kind) = refl
complaint_still TypeMismatch = refl
complaint_still LabelMismatch = refl

module _ {N P : Type 0} where
  demand_still : (d : Demand N P) → demand_renamed (λ n. n) (λ p. p) d ≡ d
  demand_still d = λ i. record { place = d.place; complaint = complaint_still d.complaint i; holds = d.holds }

  demands_still : (ds : List (Demand N P)) → map (demand_renamed (λ n. n) (λ p. p)) ds ≡ ds
  demands_still [] = refl
  demands_still (d ∷ ds) = λ i. demand_still d i ∷ demands_still ds i

module _ {N M P Q : Type 0} (f : N → M) (g : P → Q) where
  -- the same are met
  met_same : (ds : List (Demand N P)) → map is_met (map (demand_renamed f g) ds) ≡ map is_met ds
  met_same [] = refl
  met_same (d ∷ ds) = ap (λ l. d.holds ∷ l) (met_same ds)

  -- so the first that isn't is renamed
  pub first_renamed : (ds : List (Demand N P)) → first_unmet is_met (map (demand_renamed f g) ds) ≡ option_map (demand_renamed f g) (first_unmet is_met ds)
  first_renamed [] = refl
  first_renamed (d ∷ ds) = by_case d.holds (first_renamed ds)
    where
      by_case : (b : Bool) → first_unmet is_met (map (demand_renamed f g) ds) ≡ option_map (demand_renamed f g) (first_unmet is_met ds)
          → (if b then first_unmet is_met (map (demand_renamed f g) ds) else Some (demand_renamed f g d)) ≡ option_map (demand_renamed f g) (if b then first_unmet is_met ds else Some d)
      by_case true rest = rest
      by_case false rest = refl

abbrev DemandList : Type 0 → Type 0 → Type 0
DemandList N P = List (Demand N P)

-- fields, and the fresh names that are made for them
abbrev Given : Type 0 → Type 0 → Type 0
Given N P = (ℕ → N) × List (Field N P)

-- fields, and a name
abbrev Asked : Type 0 → Type 0 → Type 0
Asked N P = N × List (Field N P)

module _ {N M P Q : Type 0} (names : Iso N M) (places : Iso P Q) where
  demands_renamed_so : (ds : List (Demand N P)) → renamed DemandList names places ds ≡ map (demand_renamed names.fun places.fun) ds
  demands_renamed_so ds = renamed_so DemandList (λ N M P Q f g ds. map (demand_renamed f g) ds) (λ N P ds. demands_still ds) names places ds

  pub naming_so : (naming : ℕ → N) → renamed (λ N P. ℕ → N) names places naming ≡ (λ n. names.fun (naming n))
  naming_so naming = renamed_so (λ N P. ℕ → N) (λ N M P Q f g naming. λ n. f (naming n)) (λ N P naming. refl) names places naming

  name_so : (name : N) → renamed (λ N P. N) names places name ≡ names.fun name
  name_so name = renamed_so (λ N P. N) (λ N M P Q f g name. f name) (λ N P name. refl) names places name

  number_so : (number : Option ℕ) → renamed (λ N P. Option ℕ) names places number ≡ number
  number_so number = renamed_so (λ N P. Option ℕ) (λ N M P Q f g number. number) (λ N P number. refl) names places number

  module _ (eq : N → N → Bool) (new : M → M → Bool) (keeps : Keeps eq new names.fun) (fs : List (Field N P)) where
    pub demands_renamed : demands new (fields_renamed names places fs) ≡ map (demand_renamed names.fun places.fun) (demands eq fs)
    demands_renamed = free FieldList DemandList (λ N P eq fs. demands eq fs) names places eq new keeps fs ∙ demands_renamed_so (demands eq fs)

    pub met_renamed : map is_met (demands new (fields_renamed names places fs)) ≡ map is_met (demands eq fs)
    met_renamed = ap (map is_met) demands_renamed ∙ met_same names.fun places.fun (demands eq fs)

    pub all_demands_renamed : (naming : ℕ → N) → all_demands new (λ n. names.fun (naming n)) (fields_renamed names places fs) ≡ map (demand_renamed names.fun places.fun) (all_demands eq naming fs)
    all_demands_renamed naming =
        ap (λ made. all_demands new made (fields_renamed names places fs)) (sym (naming_so naming))
        ∙ free Given DemandList (λ N P eq x. all_demands eq x.0 x.1) names places eq new keeps (naming, fs)
        ∙ demands_renamed_so (all_demands eq naming fs)

    -- NUMBERS
    pub number_renamed : (s : Space) (n : N) → denotes new (fields_renamed names places fs) s (names.fun n) ≡ denotes eq fs s n
    number_renamed s n =
        ap (λ m. denotes new (fields_renamed names places fs) s m) (sym (name_so n))
        ∙ free Asked (λ N P. Option ℕ) (λ N P eq x. denotes eq x.1 s x.0) names places eq new keeps (n, fs)
        ∙ number_so (denotes eq fs s n)

    pub numbered_renamed : numbered new (fields_renamed names places fs) ≡ fields_renamed names places (numbered eq fs)
    numbered_renamed = free FieldList FieldList (λ N P eq fs. numbered eq fs) names places eq new keeps fs

    pub resolved_renamed : (naming : ℕ → N) → resolved new (λ n. names.fun (naming n)) (fields_renamed names places fs) ≡ fields_renamed names places (resolved eq naming fs)
    resolved_renamed naming =
        ap (λ made. resolved new made (fields_renamed names places fs)) (sym (naming_so naming))
        ∙ free Given FieldList (λ N P eq x. resolved eq x.0 x.1) names places eq new keeps (naming, fs)

-- the test of names is kept by what is one to one
pub names_kept : (names : Iso Name Name) → Keeps same_name same_name names.fun
names_kept names a b = agree _ _ (λ t. (names_decide a b).1 (injective same_name names_decide names a b ((names_decide _ _).0 t))) (λ t. (names_decide _ _).1 (ap names.fun ((names_decide a b).0 t)))
  where
    agree : (p q : Bool) → (p ≡ true → q ≡ true) → (q ≡ true → p ≡ true) → p ≡ q
    agree true q f g = sym (f refl)
    agree false true f g = g refl
    agree false false f g = refl
