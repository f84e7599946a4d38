-- Custom fields stay where fields are resolved, so the module of a plain tree is read as it is.
use Rattle.std.proofs.Common.{◌≡◌, ℕ, suc, Bool, false, List, [], ◌∷◌, ◌++◌, map, Option, refl, ap, ◌∙◌, append-nil}
use Rattle.std.specs.List.{flat_map}
use Rattle.std.proofs.lemmas.List.Concat.{flat_map-append}
use Rattle.wast_grammar.specs.Tokens.{Name}
use Rattle.wast_grammar.specs.Spelling.{same_name}
use Rattle.wast_parser.specs.Identifiers.{Named}
use Rattle.wast_signatures.specs.TypeTree.{Sig}
use Rattle.wast_module_fields.specs.FieldTree.{Defined, Imported, Func, Table, TableOf, Memory, MemoryOf, Global, Tag, Field, TypeField, RecField, ImportField, Define, ExportField, StartField, ElemField, DataField, CustomField, field_place}
use Rattle.wast_exports.specs.Exports.{ExportKind}
use Rattle.wast_meaning.specs.Changed.{Changes, field_changed}
use Rattle.wast_meaning.specs.Implied.{implied, type_taken}
use Rattle.wast_meaning.specs.Numbered.{with_types, implied_field, numberings, expanded, resolved}
use Rattle.wast_meaning.specs.Scope.{scope_of}
use Rattle.wast_meaning.specs.Written.{field_of, export_of, segment_of, name_or, field_out, written_from, written_out, kind_of}
use Rattle.wast_resolve_laws.proofs.Taking.{all_taking}
use Rattle.wasm_layout.specs.Present.{is_called, is_present}
use Rattle.wast_meant.specs.CustomsMeant.{custom_of, customs_in}
use Rattle.wast_meant.specs.Meaning.{without_customs}
use Rattle.wast_meant_laws.proofs.AtStops.{in_one_gap}
use Rattle.wast_meant_laws.proofs.Gaps.{called_same}
use Rattle.wast_meant.specs.NamesMeant.{given_name}
use Rattle.wast_meaning.specs.Made.{is_made}
use Rattle.wast_binary.specs.Parts.{module_of}

module _ {N P : Type 0} where
  -- CHANGED INDICES
  changed_customs : (cs : Changes N P) (f : Field N P) → customs_in (field_changed cs f) ≡ customs_in f
  changed_customs cs (CustomField c) = refl
  changed_customs cs (TypeField t) = refl
  changed_customs cs (RecField r) = refl
  changed_customs cs (ImportField i) = refl
  changed_customs cs (Define d) = refl
  changed_customs cs (ExportField e) = refl
  changed_customs cs (StartField s) = refl
  changed_customs cs (ElemField e) = refl
  changed_customs cs (DataField d) = refl

  all_changed : (g : Field N P → Field N P) → ((f : Field N P) → customs_in (g f) ≡ customs_in f) → (fs : List (Field N P)) → flat_map customs_in (map g fs) ≡ flat_map customs_in fs
  all_changed g so [] = refl
  all_changed g so (f ∷ fs) = λ i. so f i ++ all_changed g so fs i

  no_customs : (us : List (P × Sig N P)) → flat_map customs_in (map implied_field us) ≡ []
  no_customs [] = refl
  no_customs (u ∷ us) = no_customs us

  -- PARTS that are written out
  field_customs : (p : P) (id : Option (Named N P)) (given : Option (List ℕ)) (d : Defined N P) → customs_in (field_of p id given d) ≡ []
  field_customs p id given (Imported from name t) = refl
  field_customs p id given (Func f) = refl
  field_customs p id given (Table t init) = refl
  field_customs p id given (TableOf wide t es) = refl
  field_customs p id given (Memory t) = refl
  field_customs p id given (MemoryOf wide page vs) = refl
  field_customs p id given (Global t init) = refl
  field_customs p id given (Tag u) = refl

  export_customs : (p : P) (kind : ExportKind) (id : Named N P) (names : List (List ℕ)) → flat_map customs_in (map (export_of p kind id) names) ≡ []
  export_customs p kind id [] = refl
  export_customs p kind id (name ∷ names) = export_customs p kind id names

  segment_customs : (p : P) (id : Named N P) (d : Defined N P) → flat_map customs_in (segment_of p id d) ≡ []
  segment_customs p id (TableOf wide t es) = refl
  segment_customs p id (MemoryOf wide page vs) = refl
  segment_customs p id (Imported from name t) = refl
  segment_customs p id (Func f) = refl
  segment_customs p id (Table t init) = refl
  segment_customs p id (Memory t) = refl
  segment_customs p id (Global t init) = refl
  segment_customs p id (Tag u) = refl

  none_between : (a : Field N P) (bs cs : List (Field N P)) → customs_in a ≡ [] → flat_map customs_in bs ≡ [] → flat_map customs_in cs ≡ [] → flat_map customs_in (a ∷ bs ++ cs) ≡ []
  none_between a bs cs p q r = ap (λ x. x ++ flat_map customs_in (bs ++ cs)) p ∙ flat_map-append customs_in bs cs ∙ ap (λ x. x ++ flat_map customs_in cs) q ∙ r

  out_customs : (n : N) (f : Field N P) → flat_map customs_in (field_out n f) ≡ customs_in f
  out_customs n (Define d) =
      none_between _ (map (export_of d.place (kind_of d.defined) (name_or n d)) d.exports) (segment_of d.place (name_or n d) d.defined)
      (field_customs d.place _ d.given d.defined) (export_customs d.place (kind_of d.defined) (name_or n d) d.exports) (segment_customs d.place (name_or n d) d.defined)
  out_customs n (CustomField c) = refl
  out_customs n (TypeField t) = refl
  out_customs n (RecField r) = refl
  out_customs n (ImportField i) = refl
  out_customs n (ExportField e) = refl
  out_customs n (StartField s) = refl
  out_customs n (ElemField e) = refl
  out_customs n (DataField d) = refl

  from_customs : (naming : ℕ → N) (n : ℕ) (fs : List (Field N P)) → flat_map customs_in (written_from naming n fs) ≡ flat_map customs_in fs
  from_customs naming n [] = refl
  from_customs naming n (f ∷ fs) = flat_map-append customs_in (field_out (naming n) f) (written_from naming (suc n) fs) ∙ (λ i. out_customs (naming n) f i ++ from_customs naming (suc n) fs i)

  module _ (eq : N → N → Bool) where
    expanded_customs : (fs : List (Field N P)) → flat_map customs_in (expanded eq fs) ≡ flat_map customs_in fs
    expanded_customs fs =
        flat_map-append customs_in (map (λ f. with_types (type_taken eq fs) (field_place f) f) fs) (map implied_field (implied eq fs))
        ∙ ap (λ x. flat_map customs_in (map (λ f. with_types (type_taken eq fs) (field_place f) f) fs) ++ x) (no_customs (implied eq fs))
        ∙ append-nil (flat_map customs_in (map (λ f. with_types (type_taken eq fs) (field_place f) f) fs))
        ∙ all_changed (λ f. with_types (type_taken eq fs) (field_place f) f) (λ f. changed_customs (all_taking (type_taken eq fs) (field_place f)) f) fs

    pub resolved_customs : (naming : ℕ → N) (fs : List (Field N P)) → flat_map customs_in (resolved eq naming fs) ≡ flat_map customs_in fs
    resolved_customs naming fs =
        all_changed (field_changed (numberings eq (scope_of eq (expanded eq (written_out naming fs))))) (changed_customs (numberings eq (scope_of eq (expanded eq (written_out naming fs))))) (expanded eq (written_out naming fs))
        ∙ expanded_customs (written_out naming fs) ∙ from_customs naming 0 fs

-- no custom section of the module has a name that no custom field has
pub uncalled : (given : Option (List ℕ)) (id : Option (Named Name ℕ)) (naming : ℕ → Name) (fs : List (Field Name ℕ)) (name : List ℕ)
    → is_called name (map custom_of (flat_map customs_in fs) ∷ []) ≡ false → is_called name (module_of given id (resolved same_name naming fs)).customs ≡ false
uncalled given id naming fs name none =
    let rs = resolved same_name naming fs in
    called_same name (flat_map customs_in rs) (is_present (in_one_gap (flat_map customs_in rs) (without_customs same_name is_made (given_name is_made given id) rs)))
    ∙ ap (λ cs. is_called name (map custom_of cs ∷ [])) (resolved_customs same_name naming fs) ∙ none
