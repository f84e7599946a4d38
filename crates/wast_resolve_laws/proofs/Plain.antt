-- Fields in which nothing stands inline: what is written out is such, with types and numbers too, and is written out as itself.
use Rattle.std.proofs.Common.{◌≡◌, ℕ, suc, Bool, true, false, List, [], ◌∷◌, ◌++◌, map, Option, refl, ◌∙◌, ap}
use Rattle.std.specs.Prelude.{◌&&◌, not}
use Rattle.std.specs.List.{list_all}
use Rattle.std.specs.Cmp.Derive.{both_true}
use Rattle.std.proofs.lemmas.Bool.{false≢true}
use Rattle.wast_parser.specs.Identifiers.{Named}
use Rattle.wast_exports.specs.Exports.{ExportKind}
use Rattle.wast_signatures.specs.TypeTree.{Sig}
use Rattle.wast_field_syntax.specs.FieldTree.{Defined, Imported, Func, Table, TableOf, Memory, MemoryOf, Global, Tag, Definition, Field, TypeField, RecField, ImportField, Define, ExportField, StartField, ElemField, DataField, CustomField, field_place}
use Rattle.wast_meaning.specs.Written.{has_any, kind_of, field_of, export_of, segment_of, name_or, definition_out, field_out, written_from, written_out}
use Rattle.wast_meaning.specs.Changed.{Changes, defined_changed, field_changed}
use Rattle.wast_meaning.specs.Numbered.{implied_field, expanded, numbered, numberings}
use Rattle.wast_meaning.specs.Implied.{implied, type_taken}
use Rattle.wast_meaning.specs.Scope.{scope_of}
use Rattle.wast_meaning.proofs.Settled.{left, right, two}
use Rattle.wast_resolve_laws.proofs.Taking.{both, all_taking}
use Rattle.wast_resolve_laws.proofs.Expanded.{taking_all}

module _ {N P : Type 0} where
  -- what is defined by itself
  abbrev pub stands_alone : Defined N P → Bool
  stands_alone (Imported from name t) = false
  stands_alone (TableOf wide t es) = false
  stands_alone (MemoryOf wide page vs) = false
  stands_alone d = true

  abbrev pub is_plain : Field N P → Bool
  is_plain (Define d) = not (has_any d.exports) && stands_alone d.defined
  is_plain f = true

  -- WHAT IS WRITTEN OUT
  field_plain : (p : P) (id : Option (Named N P)) (given : Option (List ℕ)) (d : Defined N P) → is_plain (field_of p id given d) ≡ true
  field_plain p id given (Imported from name t) = refl
  field_plain p id given (Func f) = refl
  field_plain p id given (Table t init) = refl
  field_plain p id given (TableOf wide t es) = refl
  field_plain p id given (Memory t) = refl
  field_plain p id given (MemoryOf wide page vs) = refl
  field_plain p id given (Global t init) = refl
  field_plain p id given (Tag u) = refl

  exports_plain : (p : P) (kind : ExportKind) (id : Named N P) (es : List (List ℕ)) → list_all is_plain (map (export_of p kind id) es) ≡ true
  exports_plain p kind id [] = refl
  exports_plain p kind id (e ∷ es) = exports_plain p kind id es

  segment_plain : (p : P) (id : Named N P) (d : Defined N P) → list_all is_plain (segment_of p id d) ≡ true
  segment_plain p id (Imported from name t) = refl
  segment_plain p id (Func f) = refl
  segment_plain p id (Table t init) = refl
  segment_plain p id (TableOf wide t es) = refl
  segment_plain p id (Memory t) = refl
  segment_plain p id (MemoryOf wide page vs) = refl
  segment_plain p id (Global t init) = refl
  segment_plain p id (Tag u) = refl

  definition_plain : (d : Definition N P) (id : Option (Named N P)) (own : Named N P) →
      list_all is_plain (field_of d.place id d.given d.defined ∷ (map (export_of d.place (kind_of d.defined) own) d.exports ++ segment_of d.place own d.defined)) ≡ true
  definition_plain d id own =
      both_true (field_plain d.place id d.given d.defined)
      (both is_plain (map (export_of d.place (kind_of d.defined) own) d.exports) (segment_of d.place own d.defined) (exports_plain d.place (kind_of d.defined) own d.exports) (segment_plain d.place own d.defined))

  out_plain : (n : N) (f : Field N P) → list_all is_plain (field_out n f) ≡ true
  out_plain n (Define d) = definition_plain d _ (name_or n d)
  out_plain n (TypeField t) = refl
  out_plain n (RecField r) = refl
  out_plain n (ImportField i) = refl
  out_plain n (ExportField e) = refl
  out_plain n (StartField s) = refl
  out_plain n (ElemField e) = refl
  out_plain n (DataField d) = refl
  out_plain n (CustomField x) = refl

  pub written_plain : (naming : ℕ → N) (k : ℕ) (fs : List (Field N P)) → list_all is_plain (written_from naming k fs) ≡ true
  written_plain naming k [] = refl
  written_plain naming k (f ∷ fs) = both is_plain (field_out (naming k) f) (written_from naming (suc k) fs) (out_plain (naming k) f) (written_plain naming (suc k) fs)

  -- STAYS
  definition_stays : (n : N) (p : P) (id : Option (Named N P)) (given : Option (List ℕ)) (es : List (List ℕ)) (d : Defined N P) → (not (has_any es) && stands_alone d) ≡ true →
      definition_out n (record { place = p; id = id; given = given; exports = es; defined = d }) ≡ Define (record { place = p; id = id; given = given; exports = es; defined = d }) ∷ []
  definition_stays n p id given (e ∷ es) d h = elim (false≢true h) [ ]
  definition_stays n p id given [] (Imported from name t) h = elim (false≢true h) [ ]
  definition_stays n p id given [] (Func f) h = refl
  definition_stays n p id given [] (Table t init) h = refl
  definition_stays n p id given [] (TableOf wide t es) h = elim (false≢true h) [ ]
  definition_stays n p id given [] (Memory t) h = refl
  definition_stays n p id given [] (MemoryOf wide page vs) h = elim (false≢true h) [ ]
  definition_stays n p id given [] (Global t init) h = refl
  definition_stays n p id given [] (Tag u) h = refl

  field_stays : (n : N) (f : Field N P) → is_plain f ≡ true → field_out n f ≡ f ∷ []
  field_stays n (Define d) h = definition_stays n d.place d.id d.given d.exports d.defined h
  field_stays n (TypeField t) h = refl
  field_stays n (RecField r) h = refl
  field_stays n (ImportField i) h = refl
  field_stays n (ExportField e) h = refl
  field_stays n (StartField s) h = refl
  field_stays n (ElemField e) h = refl
  field_stays n (DataField d) h = refl
  field_stays n (CustomField x) h = refl

  stays_from : (naming : ℕ → N) (k : ℕ) (fs : List (Field N P)) → list_all is_plain fs ≡ true → written_from naming k fs ≡ fs
  stays_from naming k [] h = refl
  stays_from naming k (f ∷ fs) h = two (λ a b. a ++ b) (field_stays (naming k) f (left (is_plain f) (list_all is_plain fs) h)) (stays_from naming (suc k) fs (right (is_plain f) (list_all is_plain fs) h))

  pub plain_stays : (naming : ℕ → N) (fs : List (Field N P)) → list_all is_plain fs ≡ true → written_out naming fs ≡ fs
  plain_stays naming fs h = stays_from naming 0 fs h

  -- WITH OTHER INDICES
  alone_kept : (cs : Changes N P) (d : Defined N P) → stands_alone (defined_changed cs d) ≡ stands_alone d
  alone_kept cs (Imported from name t) = refl
  alone_kept cs (Func f) = refl
  alone_kept cs (Table t init) = refl
  alone_kept cs (TableOf wide t es) = refl
  alone_kept cs (Memory t) = refl
  alone_kept cs (MemoryOf wide page vs) = refl
  alone_kept cs (Global t init) = refl
  alone_kept cs (Tag u) = refl

  plain_kept : (cs : Changes N P) (f : Field N P) → is_plain (field_changed cs f) ≡ is_plain f
  plain_kept cs (TypeField t) = refl
  plain_kept cs (RecField r) = refl
  plain_kept cs (ImportField i) = refl
  plain_kept cs (Define d) = ap (λ b. not (has_any d.exports) && b) (alone_kept cs d.defined)
  plain_kept cs (ExportField e) = refl
  plain_kept cs (StartField s) = refl
  plain_kept cs (ElemField e) = refl
  plain_kept cs (DataField d) = refl
  plain_kept cs (CustomField x) = refl

  changed_plain : (cs : Changes N P) (fs : List (Field N P)) → list_all is_plain (map (field_changed cs) fs) ≡ list_all is_plain fs
  changed_plain cs [] = refl
  changed_plain cs (f ∷ fs) = two (λ a b. a && b) (plain_kept cs f) (changed_plain cs fs)

  taking_plain : (taken : Sig N P → Option ℕ) (fs : List (Field N P)) → list_all is_plain (taking_all taken fs) ≡ list_all is_plain fs
  taking_plain taken [] = refl
  taking_plain taken (f ∷ fs) = two (λ a b. a && b) (plain_kept (all_taking taken (field_place f)) f) (taking_plain taken fs)

  implied_plain : (us : List (P × Sig N P)) → list_all is_plain (map implied_field us) ≡ true
  implied_plain [] = refl
  implied_plain (u ∷ us) = implied_plain us

module _ {N P : Type 0} (eq : N → N → Bool) where
  pub expanded_plain : (fs : List (Field N P)) → list_all is_plain fs ≡ true → list_all is_plain (expanded eq fs) ≡ true
  expanded_plain fs h = both is_plain (taking_all (type_taken eq fs) fs) (map implied_field (implied eq fs)) (taking_plain (type_taken eq fs) fs ∙ h) (implied_plain (implied eq fs))

  pub numbered_plain : (fs : List (Field N P)) → list_all is_plain fs ≡ true → list_all is_plain (numbered eq fs) ≡ true
  numbered_plain fs h = changed_plain (numberings eq (scope_of eq fs)) fs ∙ h
