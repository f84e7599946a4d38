-- Fields of which nothing stands inline are written out as themselves, and take no name.
use Rattle.std.proofs.Common.{◌≡◌, ℕ, suc, Bool, true, false, List, [], ◌∷◌, ◌++◌, Option, refl, ap, ◌∙◌, cond, arith}
use Rattle.std.specs.Prelude.{◌&&◌, not, is_some}
use Rattle.std.specs.List.{count_by, list_all}
use Rattle.std.proofs.lemmas.Bool.{and_parts}
use Rattle.std.proofs.lemmas.List.Sums.{sum_by-cons}
use Rattle.wast_parser.specs.Identifiers.{Named}
use Rattle.wast_module_fields.specs.FieldTree.{Defined, Imported, Func, Table, TableOf, Memory, MemoryOf, Global, Tag, Field, TypeField, RecField, ImportField, Define, ExportField, StartField, ElemField, DataField, CustomField}
use Rattle.wast_meaning.specs.Written.{field_out, is_said, takes_name, written_from, written_out}
use Rattle.wast_deinline.specs.Definitions.{is_imported, stands_alone}

unsaid : (said b c : Bool) → (not said && b) ≡ true → (said && c) ≡ false
unsaid true b c h = cc
unsaid false b c h = refl

module _ {N P : Type 0} where
  definition_same : (n : N) (p : P) (id : Option (Named N P)) (given : Option (List ℕ)) (es : List (List ℕ)) (d : Defined N P)
      → stands_alone (Define (record { place = p; id = id; given = given; exports = es; defined = d })) ≡ true
      → field_out n (Define (record { place = p; id = id; given = given; exports = es; defined = d })) ≡ Define (record { place = p; id = id; given = given; exports = es; defined = d }) ∷ []
  definition_same n p id given [] (Func f) h = refl
  definition_same n p id given [] (Table t init) h = refl
  definition_same n p id given [] (Memory t) h = refl
  definition_same n p id given [] (Global t init) h = refl
  definition_same n p id given [] (Tag u) h = refl
  definition_same n p id given [] (Imported from name t) h = cc
  definition_same n p id given [] (TableOf wide t es) h = cc
  definition_same n p id given [] (MemoryOf wide page vs) h = cc
  definition_same n p id given (e ∷ es) d h = cc

  field_same : (n : N) (f : Field N P) → stands_alone f ≡ true → field_out n f ≡ f ∷ []
  field_same n (Define d) h = definition_same n d.place d.id d.given d.exports d.defined h
  field_same n (TypeField t) h = refl
  field_same n (RecField r) h = refl
  field_same n (ImportField i) h = refl
  field_same n (ExportField e) h = refl
  field_same n (StartField s) h = refl
  field_same n (ElemField e) h = refl
  field_same n (DataField d) h = refl
  field_same n (CustomField c) h = refl

  field_unnamed : (f : Field N P) → stands_alone f ≡ true → takes_name f ≡ false
  field_unnamed (Define d) h = unsaid (is_said d) (not (is_imported d.defined)) (not (is_some d.id)) h
  field_unnamed (TypeField t) h = refl
  field_unnamed (RecField r) h = refl
  field_unnamed (ImportField i) h = refl
  field_unnamed (ExportField e) h = refl
  field_unnamed (StartField s) h = refl
  field_unnamed (ElemField e) h = refl
  field_unnamed (DataField d) h = refl
  field_unnamed (CustomField c) h = refl

  same_from : (naming : ℕ → N) (k : ℕ) (fs : List (Field N P)) → list_all stands_alone fs ≡ true → written_from naming k fs ≡ fs
  same_from naming k [] h = refl
  same_from naming k (f ∷ fs) h =
      let hs = and_parts (stands_alone f) (list_all stands_alone fs) h in
      ap (λ v. v ++ written_from naming (suc k) fs) (field_same (naming k) f hs.0) ∙ ap (λ v. f ∷ v) (same_from naming (suc k) fs hs.1)

  pub none_named : (fs : List (Field N P)) → list_all stands_alone fs ≡ true → count_by takes_name fs ≡ 0
  none_named [] h = refl
  none_named (f ∷ fs) h =
      let hs = and_parts (stands_alone f) (list_all stands_alone fs) h in
      let ones : Field N P → ℕ = λ g. cond (takes_name g) 1 0 in
      let none : ℕ = 0 in
      let first : ones f ≡ none = ap (λ (b : Bool). cond b 1 0) (field_unnamed f hs.0) in
      let rest = none_named fs hs.1 in
      let sum = sum_by-cons ones f fs in
      omega (arith, first, rest, sum)

pub written_alone : {N P : Type 0} (naming : ℕ → N) (fs : List (Field N P)) → list_all stands_alone fs ≡ true → written_out naming fs ≡ fs
written_alone naming fs h = same_from naming 0 fs h
