-- What fields are resolved to has the first form that the fields have: numbers and types change none, and implied types are of signatures
-- that uses write.
use Rattle.std.proofs.Common.{◌≡◌, ℕ, suc, Bool, true, false, List, [], ◌∷◌, ◌++◌, map, All, Option, None, refl, sym, ◌∙◌, ap}
use Rattle.std.specs.Prelude.{not, filter_map}
use Rattle.std.specs.List.{flat_map, list_all}
use Rattle.std.specs.Cmp.Derive.{both_true}
use Rattle.std.proofs.lemmas.Option.{none-some}
use Rattle.std.proofs.lemmas.List.Elements.{All-nil, All-cons}
use Rattle.wast_parser.specs.Identifiers.{Named}
use Rattle.wast_exports.specs.Exports.{ExportKind}
use Rattle.wast_signatures.specs.TypeTree.{Sig}
use Rattle.wast_module_fields.specs.FieldTree.{Defined, Imported, Func, Table, TableOf, Memory, MemoryOf, Global, Tag, Definition, Field, TypeField, RecField, ImportField, Define, ExportField, StartField, ElemField, DataField, CustomField, field_place}
use Rattle.wast_meaning.specs.Written.{has_any, kind_of, field_of, export_of, segment_of, name_or, field_out, written_from, written_out}
use Rattle.wast_meaning.specs.Mentions.{field_mentions}
use Rattle.wast_meaning.specs.Implied.{unnamed, unnamed_local, sig_of_mention, used_sigs, written_types, plain_sig, implied, type_taken}
use Rattle.wast_meaning.specs.Scope.{scope_of}
use Rattle.wast_meaning.specs.Changed.{field_changed}
use Rattle.wast_meaning.specs.Numbered.{with_types, implied_field, numberings, expanded, numbered, resolved}
use Rattle.wast_meaning.proofs.Settled.{left, right, two}
use Rattle.wast_conversions.specs.Covered.{Form, val_forms, sig_forms}
use Rattle.wast_meant.specs.Covered.{first_of, field_forms, first_form, uncovered}
use Rattle.wast_resolve_laws.proofs.Kept.{place_kept}
use Rattle.wast_resolve_laws.proofs.Taking.{both, all_taking}
use Rattle.wast_resolve_laws.proofs.Sigs.{at_place, unplaced, implied_pass}
use Rattle.wast_resolve_laws.proofs.Expanded.{taking_all}
use Rattle.wast_resolve_laws.proofs.Plain.{plain_stays}
use Rattle.wast_encode_laws.specs.Orderings.{is_ordered, defined_instrs, field_instrs, are_ordered}
use Rattle.wast_encode_laws.proofs.Lists.{each_kept, none_left}
use Rattle.wast_encode_laws.proofs.FormsKept.{local_forms, forms_kept}
use Rattle.wast_encode_laws.proofs.Clear.{sig_clear, sigs_clear, field_clear}
use Rattle.wast_encode_laws.proofs.Ready.{resolved_plain}

-- THE FIRST FORM
module _ {P : Type 0} where
  none_here : (p : P) (forms : List Form) (rest : Option (P × Form)) → first_of p forms rest ≡ None → forms ≡ []
  none_here p [] rest e = refl
  none_here p (form ∷ forms) rest e = elim (none-some (p, form) (sym e)) [ ]

  none_after : (p : P) (forms : List Form) (rest : Option (P × Form)) → first_of p forms rest ≡ None → rest ≡ None
  none_after p [] rest e = e
  none_after p (form ∷ forms) rest e = elim (none-some (p, form) (sym e)) [ ]

module _ {N P : Type 0} where
  first_kept : (h : Field N P → Field N P) → ((f : Field N P) → field_forms (h f) ≡ field_forms f) → ((f : Field N P) → field_place (h f) ≡ field_place f) → (fs : List (Field N P)) → first_form (map h fs) ≡ first_form fs
  first_kept h forms place [] = refl
  first_kept h forms place (f ∷ fs) =
      ap (λ rest. first_of (field_place (h f)) (field_forms (h f)) rest) (first_kept h forms place fs) ∙ two (λ p l. first_of p l (first_form fs)) (place f) (forms f)

  -- behind others, fields without forms change nothing
  first_joined : (xs ys : List (Field N P)) → (first_form xs ≡ None → first_form ys ≡ None) → first_form (xs ++ ys) ≡ first_form xs
  first_joined [] ys more = more refl
  first_joined (x ∷ xs) ys more = by_case (field_forms x) (first_joined xs ys) more
    where
      by_case : (forms : List Form) → ((first_form xs ≡ None → first_form ys ≡ None) → first_form (xs ++ ys) ≡ first_form xs) → (first_of (field_place x) forms (first_form xs) ≡ None → first_form ys ≡ None) →
          first_of (field_place x) forms (first_form (xs ++ ys)) ≡ first_of (field_place x) forms (first_form xs)
      by_case [] rest k = rest k
      by_case (form ∷ forms) rest k = refl

  none_first : (fs : List (Field N P)) → first_form fs ≡ None → All (λ f. field_forms f ≡ []) fs
  none_first [] e = All-nil (λ f. field_forms f ≡ [])
  none_first (f ∷ fs) e =
      All-cons (λ (g : Field N P). field_forms g ≡ []) f fs (none_here (field_place f) (field_forms f) (first_form fs) e) (none_first fs (none_after (field_place f) (field_forms f) (first_form fs) e))

  -- IMPLIED TYPES
  abbrev field_ordered : Field N P → Bool
  field_ordered f = list_all (λ i. is_ordered i.operands) (field_instrs f)

  used_clear : (fs : List (Field N P)) → are_ordered fs ≡ true → first_form fs ≡ None → list_all (at_place sig_clear) (flat_map used_sigs fs) ≡ true
  used_clear [] a e = refl
  used_clear (f ∷ fs) a e =
      both (at_place sig_clear) (used_sigs f) (flat_map used_sigs fs)
      (unplaced sig_clear (field_place f) (flat_map sig_of_mention (field_mentions f))
      ∙ sigs_clear (field_mentions f) (field_clear f (left (field_ordered f) (are_ordered fs) a) (none_here (field_place f) (field_forms f) (first_form fs) e)))
      (used_clear fs (right (field_ordered f) (are_ordered fs) a) (none_after (field_place f) (field_forms f) (first_form fs) e))

  unnamed_clear : (s : Sig N P) → sig_clear (unnamed s) ≡ sig_clear s
  unnamed_clear s = ap (λ forms. not (has_any (forms ++ flat_map val_forms s.results))) (each_kept local_forms unnamed_local (λ l. refl) s.params)

  implied_none : (us : List (P × Sig N P)) → list_all (at_place sig_clear) us ≡ true → first_form (map implied_field us) ≡ None
  implied_none [] e = refl
  implied_none (u ∷ us) e =
      ap (λ forms. first_of u.0 forms (first_form (map implied_field us))) (none_left (sig_forms u.1) (left (sig_clear u.1) (list_all (at_place sig_clear) us) e))
      ∙ implied_none us (right (sig_clear u.1) (list_all (at_place sig_clear) us) e)

  -- ORDERINGS, where fields are written out
  of_field : (p : P) (id : Option (Named N P)) (given : Option (List ℕ)) (d : Defined N P) → list_all (λ i. is_ordered i.operands) (defined_instrs d) ≡ true → field_ordered (field_of p id given d) ≡ true
  of_field p id given (Imported from name t) a = refl
  of_field p id given (Func f) a = a
  of_field p id given (Table t init) a = a
  of_field p id given (TableOf wide t es) a = refl
  of_field p id given (Memory t) a = refl
  of_field p id given (MemoryOf wide page vs) a = refl
  of_field p id given (Global t init) a = a
  of_field p id given (Tag u) a = refl

  of_exports : (p : P) (kind : ExportKind) (id : Named N P) (es : List (List ℕ)) → are_ordered (map (export_of p kind id) es) ≡ true
  of_exports p kind id [] = refl
  of_exports p kind id (e ∷ es) = of_exports p kind id es

  of_segment : (p : P) (id : Named N P) (d : Defined N P) → list_all (λ i. is_ordered i.operands) (defined_instrs d) ≡ true → are_ordered (segment_of p id d) ≡ true
  of_segment p id (Imported from name t) a = refl
  of_segment p id (Func f) a = refl
  of_segment p id (Table t init) a = refl
  of_segment p id (TableOf false t es) a = both_true a refl
  of_segment p id (TableOf true t es) a = both_true a refl
  of_segment p id (Memory t) a = refl
  of_segment p id (MemoryOf false page vs) a = refl
  of_segment p id (MemoryOf true page vs) a = refl
  of_segment p id (Global t init) a = refl
  of_segment p id (Tag u) a = refl

  of_definition : (d : Definition N P) (id : Option (Named N P)) (own : Named N P) → list_all (λ i. is_ordered i.operands) (defined_instrs d.defined) ≡ true →
      are_ordered (field_of d.place id d.given d.defined ∷ (map (export_of d.place (kind_of d.defined) own) d.exports ++ segment_of d.place own d.defined)) ≡ true
  of_definition d id own a =
      both_true (of_field d.place id d.given d.defined a)
      (both field_ordered (map (export_of d.place (kind_of d.defined) own) d.exports) (segment_of d.place own d.defined) (of_exports d.place (kind_of d.defined) own d.exports) (of_segment d.place own d.defined a))

  of_out : (n : N) (f : Field N P) → field_ordered f ≡ true → are_ordered (field_out n f) ≡ true
  of_out n (Define d) a = of_definition d _ (name_or n d) a
  of_out n (TypeField t) a = refl
  of_out n (RecField r) a = refl
  of_out n (ImportField i) a = refl
  of_out n (ExportField e) a = refl
  of_out n (StartField s) a = refl
  of_out n (ElemField e) a = both_true a refl
  of_out n (DataField d) a = both_true a refl
  of_out n (CustomField x) a = refl

  written_ordered : (naming : ℕ → N) (k : ℕ) (fs : List (Field N P)) → are_ordered fs ≡ true → are_ordered (written_from naming k fs) ≡ true
  written_ordered naming k [] a = refl
  written_ordered naming k (f ∷ fs) a =
      both field_ordered (field_out (naming k) f) (written_from naming (suc k) fs) (of_out (naming k) f (left (field_ordered f) (are_ordered fs) a)) (written_ordered naming (suc k) fs (right (field_ordered f) (are_ordered fs) a))

-- RESOLVED FIELDS
module _ {N P : Type 0} (eq : N → N → Bool) where
  taken_first : (fs : List (Field N P)) → first_form (taking_all (type_taken eq fs) fs) ≡ first_form fs
  taken_first fs =
      first_kept (λ f. with_types (type_taken eq fs) (field_place f) f) (λ f. forms_kept (all_taking (type_taken eq fs) (field_place f)) f) (λ f. place_kept (all_taking (type_taken eq fs) (field_place f)) f) fs

  implied_first : (fs : List (Field N P)) → are_ordered fs ≡ true → first_form fs ≡ None → first_form (map implied_field (implied eq fs)) ≡ None
  implied_first fs a e = implied_none (implied eq fs) (implied_pass sig_clear eq unnamed_clear (filter_map plain_sig (flat_map written_types fs)) (flat_map used_sigs fs) (used_clear fs a e))

  expanded_first : (fs : List (Field N P)) → are_ordered fs ≡ true → first_form (expanded eq fs) ≡ first_form fs
  expanded_first fs a =
      first_joined (taking_all (type_taken eq fs) fs) (map implied_field (implied eq fs)) (λ e. implied_first fs a (sym (taken_first fs) ∙ e)) ∙ taken_first fs

  numbered_first : (fs : List (Field N P)) → first_form (numbered eq fs) ≡ first_form fs
  numbered_first fs = first_kept (field_changed (numberings eq (scope_of eq fs))) (forms_kept (numberings eq (scope_of eq fs))) (place_kept (numberings eq (scope_of eq fs))) fs

  module _ (naming : ℕ → N) (fs : List (Field N P)) (a : are_ordered fs ≡ true) where
    resolved_first : first_form (resolved eq naming fs) ≡ uncovered naming fs
    resolved_first = numbered_first (expanded eq (written_out naming fs)) ∙ expanded_first (written_out naming fs) (written_ordered naming 0 fs a)

    -- what isn't covered is told once more
    pub uncovered_again : (other : ℕ → N) → uncovered other (resolved eq naming fs) ≡ uncovered naming fs
    uncovered_again other = ap (λ gs. first_form gs) (plain_stays other (resolved eq naming fs) (resolved_plain eq naming fs)) ∙ resolved_first

    pub covered : uncovered naming fs ≡ None → All (λ f. field_forms f ≡ []) (resolved eq naming fs)
    covered e = none_first (resolved eq naming fs) (resolved_first ∙ e)
