-- What fields are written out as has the same forms, at the same places.
use Rattle.std.proofs.Common.{◌≡◌, ℕ, suc, true, false, List, [], ◌∷◌, ◌++◌, Option, Some, map, if◌then◌else◌, refl, ◌∙◌, ap, append-nil}
use Rattle.wast_parser.specs.Identifiers.{Named}
use Rattle.wast_value_types.specs.ValueTree.{RefType}
use Rattle.wast_exports.specs.Exports as exports
use Rattle.wast_fields.specs.FieldTree.{Elements, Defined, Imported, Func, Table, TableOf, Memory, MemoryOf, Global, Tag, Definition, Field, TypeField, Define, field_place}
use Rattle.wast_meaning.specs.Written.{kind_of, field_of, export_of, segment_of, is_said, name_or, definition_out, field_out, written_from, written_out}
use Rattle.wast_conversions.specs.Covered.{Form, ref_forms}
use Rattle.wast_meant.specs.Covered.{first_of, elements_forms, defined_forms, field_forms, first_form}

first_of_joined : {P : Type 0} (p : P) (xs ys : List Form) (rest : Option (P × Form)) → first_of p xs (first_of p ys rest) ≡ first_of p (xs ++ ys) rest
first_of_joined p [] ys rest = refl
first_of_joined p (x ∷ xs) ys rest = refl

module _ {N P : Type 0} where
  -- the first form of these fields, else the one that is given
  abbrev before : List (Field N P) → Option (P × Form) → Option (P × Form)
  before [] rest = rest
  before (f ∷ fs) rest = first_of (field_place f) (field_forms f) (before fs rest)

  joined : (fs gs : List (Field N P)) → first_form (fs ++ gs) ≡ before fs (first_form gs)
  joined [] gs = refl
  joined (f ∷ fs) gs = ap (first_of (field_place f) (field_forms f)) (joined fs gs)

  -- exports have none
  before_exports : (p : P) (kind : exports.ExportKind) (id : Named N P) (names : List (List ℕ)) (fs : List (Field N P)) (rest : Option (P × Form))
      → before (map (export_of p kind id) names ++ fs) rest ≡ before fs rest
  before_exports p kind id [] fs rest = refl
  before_exports p kind id (name ∷ names) fs rest = before_exports p kind id names fs rest

  -- a table of these elements, without an expression, and then its segment
  table_forms_joined : (p : P) (t : RefType N P) (es : Elements N P) (rest : Option (P × Form))
      → first_of p (ref_forms t ++ []) (first_of p (elements_forms es) rest) ≡ first_of p (ref_forms t ++ elements_forms es) rest
  table_forms_joined p t es rest =
      ap (λ fs. first_of p fs (first_of p (elements_forms es) rest)) (append-nil (ref_forms t)) ∙ first_of_joined p (ref_forms t) (elements_forms es) rest

  -- a definition and its segment have those of the definition with its segment inline
  alone_forms : (p : P) (id : Option (Named N P)) (segment : Named N P) (given : Option (List ℕ)) (d : Defined N P) (rest : Option (P × Form))
      → before (field_of p id given d ∷ segment_of p segment d) rest ≡ first_of p (defined_forms d) rest
  alone_forms p id segment given (Imported from name t) rest = refl
  alone_forms p id segment given (Func f) rest = refl
  alone_forms p id segment given (Table t init) rest = refl
  alone_forms p id segment given (TableOf true t es) rest = table_forms_joined p t es rest
  alone_forms p id segment given (TableOf false t es) rest = table_forms_joined p t es rest
  alone_forms p id segment given (Memory t) rest = refl
  alone_forms p id segment given (MemoryOf true page vs) rest = refl
  alone_forms p id segment given (MemoryOf false page vs) rest = refl
  alone_forms p id segment given (Global t init) rest = refl
  alone_forms p id segment given (Tag u) rest = refl

  definition_forms : (fresh : N) (d : Definition N P) (rest : Option (P × Form)) → before (definition_out fresh d) rest ≡ first_of d.place (defined_forms d.defined) rest
  definition_forms fresh d rest =
      let id = if is_said d then Some (name_or fresh d) else d.id in
      let f = field_of d.place id d.given d.defined in
      ap (first_of (field_place f) (field_forms f)) (before_exports d.place (kind_of d.defined) (name_or fresh d) d.exports (segment_of d.place (name_or fresh d) d.defined) rest)
      ∙ alone_forms d.place id (name_or fresh d) d.given d.defined rest

  field_out_forms : (fresh : N) (f : Field N P) (rest : Option (P × Form)) → before (field_out fresh f) rest ≡ first_of (field_place f) (field_forms f) rest
  field_out_forms fresh (Define d) rest = definition_forms fresh d rest
  field_out_forms fresh (TypeField t) rest = refl
  field_out_forms fresh f rest = refl

  from_forms : (naming : ℕ → N) (n : ℕ) (fs : List (Field N P)) → first_form (written_from naming n fs) ≡ first_form fs
  from_forms naming n [] = refl
  from_forms naming n (f ∷ fs) =
      joined (field_out (naming n) f) (written_from naming (suc n) fs)
      ∙ field_out_forms (naming n) f (first_form (written_from naming (suc n) fs))
      ∙ ap (first_of (field_place f) (field_forms f)) (from_forms naming (suc n) fs)

  pub written_forms : (naming : ℕ → N) (fs : List (Field N P)) → first_form (written_out naming fs) ≡ first_form fs
  written_forms naming fs = from_forms naming 0 fs
