-- One of the resolved fields is the start at most, where fields are well formed.
use Rattle.std.proofs.Common.{◌≡◌, ℕ, suc, ◌+◌, ◌≤◌, Bool, true, false, List, [], ◌∷◌, ◌++◌, length, map, Option, refl, sym, ◌∙◌, ap, arith}
use Rattle.std.specs.List.{flat_map}
use Rattle.std.proofs.lemmas.Bool.{false≢true}
use Rattle.std.proofs.lemmas.List.{length-append, append-nil}
use Rattle.std.proofs.lemmas.Grind.{flat_map-append}
use Rattle.wast_parser.specs.Identifiers.{Named}
use Rattle.wast_exports.specs.Exports.{ExportKind}
use Rattle.wast_signatures.specs.TypeTree.{Sig}
use Rattle.wast_module_fields.specs.FieldTree.{Defined, Imported, Func, Table, TableOf, Memory, MemoryOf, Global, Tag, Definition, Field, TypeField, RecField, ImportField, Define, ExportField, StartField, ElemField, DataField, CustomField, field_place}
use Rattle.wast_meaning.specs.Written.{kind_of, field_of, export_of, segment_of, name_or, field_out, written_from, written_out}
use Rattle.wast_meaning.specs.Implied.{implied, type_taken}
use Rattle.wast_meaning.specs.Scope.{Scope, scope_of}
use Rattle.wast_meaning.specs.Changed.{Changes, field_changed}
use Rattle.wast_meaning.specs.Numbered.{with_types, implied_field, numberings, expanded, resolved}
use Rattle.wast_meaning.specs.WellFormed.{breaches}
use Rattle.wast_meaning.proofs.Settled.{two}
use Rattle.wast_resolve_laws.proofs.Taking.{all_taking}
use Rattle.wast_resolve_laws.proofs.Expanded.{taking_all}
use Rattle.wast_meant.specs.FieldsMeant.{starts_of}
use Rattle.wast_encode_laws.proofs.FormedKept.{told, told_first, told_rest, not_again}

module _ {N P : Type 0} (eq : N → N → Bool) (is_made : N → Bool) (s : Scope N P) where
  none_started : (fs : List (Field N P)) → told eq is_made s true fs ≡ [] → flat_map starts_of fs ≡ []
  none_started [] h = refl
  none_started (StartField x ∷ fs) h = elim (false≢true (not_again eq is_made s (StartField x) (told_first eq is_made s true (StartField x) fs h))) [ ]
  none_started (f ∷ fs) h = none_started fs (told_rest eq is_made s true f fs h)

  one_started : (fs : List (Field N P)) → told eq is_made s false fs ≡ [] → length (flat_map starts_of fs) ≤ 1
  one_started [] h = omega arith
  one_started (StartField x ∷ fs) h =
      let none : length (flat_map starts_of fs) ≡ 0 = ap (λ ns. length ns) (none_started fs (told_rest eq is_made s false (StartField x) fs h)) in
      omega (arith, none)
  one_started (f ∷ fs) h = one_started fs (told_rest eq is_made s false f fs h)

-- WRITTEN OUT
module _ {N P : Type 0} where
  of_field : (p : P) (id : Option (Named N P)) (given : Option (List ℕ)) (d : Defined N P) → starts_of (field_of p id given d) ≡ []
  of_field p id given (Imported from name t) = refl
  of_field p id given (Func f) = refl
  of_field p id given (Table t init) = refl
  of_field p id given (TableOf wide t es) = refl
  of_field p id given (Memory t) = refl
  of_field p id given (MemoryOf wide page vs) = refl
  of_field p id given (Global t init) = refl
  of_field p id given (Tag u) = refl

  of_segment : (p : P) (id : Named N P) (d : Defined N P) → flat_map starts_of (segment_of p id d) ≡ []
  of_segment p id (Imported from name t) = refl
  of_segment p id (Func f) = refl
  of_segment p id (Table t init) = refl
  of_segment p id (TableOf wide t es) = refl
  of_segment p id (Memory t) = refl
  of_segment p id (MemoryOf wide page vs) = refl
  of_segment p id (Global t init) = refl
  of_segment p id (Tag u) = refl

  of_exports : (p : P) (kind : ExportKind) (id : Named N P) (es : List (List ℕ)) (rest : List (Field N P)) → flat_map starts_of (map (export_of p kind id) es ++ rest) ≡ flat_map starts_of rest
  of_exports p kind id [] rest = refl
  of_exports p kind id (e ∷ es) rest = of_exports p kind id es rest

  of_definition : (d : Definition N P) (id : Option (Named N P)) (own : Named N P) →
      flat_map starts_of (field_of d.place id d.given d.defined ∷ (map (export_of d.place (kind_of d.defined) own) d.exports ++ segment_of d.place own d.defined)) ≡ []
  of_definition d id own =
      two (λ a b. a ++ b) (of_field d.place id d.given d.defined) (of_exports d.place (kind_of d.defined) own d.exports (segment_of d.place own d.defined) ∙ of_segment d.place own d.defined)

  of_out : (n : N) (f : Field N P) → flat_map starts_of (field_out n f) ≡ starts_of f
  of_out n (Define d) = of_definition d _ (name_or n d)
  of_out n (TypeField t) = refl
  of_out n (RecField r) = refl
  of_out n (ImportField i) = refl
  of_out n (ExportField e) = refl
  of_out n (StartField s) = refl
  of_out n (ElemField e) = refl
  of_out n (DataField d) = refl
  of_out n (CustomField x) = refl

  written_starts : (naming : ℕ → N) (k : ℕ) (fs : List (Field N P)) → flat_map starts_of (written_from naming k fs) ≡ flat_map starts_of fs
  written_starts naming k [] = refl
  written_starts naming k (f ∷ fs) =
      flat_map-append starts_of (field_out (naming k) f) (written_from naming (suc k) fs) ∙ two (λ a b. a ++ b) (of_out (naming k) f) (written_starts naming (suc k) fs)

  -- WITH OTHER INDICES there are as many
  abbrev started : List (Field N P) → ℕ
  started fs = length (flat_map starts_of fs)

  field_kept : (cs : Changes N P) (f : Field N P) → length (starts_of (field_changed cs f)) ≡ length (starts_of f)
  field_kept cs (StartField s) = refl
  field_kept cs _ = refl

  changed_starts : (h : Field N P → Field N P) → ((f : Field N P) → length (starts_of (h f)) ≡ length (starts_of f)) → (fs : List (Field N P)) → started (map h fs) ≡ started fs
  changed_starts h same [] = refl
  changed_starts h same (f ∷ fs) =
      length-append (starts_of (h f)) (flat_map starts_of (map h fs)) ∙ two (λ a b. a + b) (same f) (changed_starts h same fs) ∙ sym (length-append (starts_of f) (flat_map starts_of fs))

  implied_starts : (us : List (P × Sig N P)) → flat_map starts_of (map implied_field us) ≡ []
  implied_starts [] = refl
  implied_starts (u ∷ us) = implied_starts us

module _ {N P : Type 0} (eq : N → N → Bool) where
  expanded_starts : (fs : List (Field N P)) → started (expanded eq fs) ≡ started fs
  expanded_starts fs =
      ap (λ ns. length ns)
      (flat_map-append starts_of (taking_all (type_taken eq fs) fs) (map implied_field (implied eq fs))
      ∙ ap (λ ns. flat_map starts_of (taking_all (type_taken eq fs) fs) ++ ns) (implied_starts (implied eq fs))
      ∙ append-nil (flat_map starts_of (taking_all (type_taken eq fs) fs)))
      ∙ changed_starts (λ f. with_types (type_taken eq fs) (field_place f) f) (λ f. field_kept (all_taking (type_taken eq fs) (field_place f)) f) fs

  module _ (is_made : N → Bool) (naming : ℕ → N) (fs : List (Field N P)) where
    resolved_starts : started (resolved eq naming fs) ≡ started fs
    resolved_starts =
        let typed = expanded eq (written_out naming fs) in
        changed_starts (field_changed (numberings eq (scope_of eq typed))) (field_kept (numberings eq (scope_of eq typed))) typed
        ∙ expanded_starts (written_out naming fs)
        ∙ ap (λ ns. length ns) (written_starts naming 0 fs)

    pub one_start : breaches eq is_made fs ≡ [] → started (resolved eq naming fs) ≤ 1
    one_start h = at_most resolved_starts (one_started eq is_made (scope_of eq fs) fs h)
      where
        at_most : {m n : ℕ} → m ≡ n → n ≤ 1 → m ≤ 1
        at_most e l = omega (arith, e, l)
