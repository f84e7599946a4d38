-- What is written out is written out as itself, whatever the fresh names.
use Rattle.std.proofs.Common.{ℕ, suc, ◌≡◌, List, [], ◌∷◌, ◌++◌, map, length, Option, refl, sym, ap, ◌∙◌, arith, append_assoc}
use Rattle.std.specs.Prelude.{◌+◌}
use Rattle.wast_parser.specs.Identifiers.{Named}
use Rattle.wast_exports.specs.Exports.{ExportKind}
use Rattle.wast_field_syntax.specs.FieldTree.{Defined, Imported, Func, Table, TableOf, Memory, MemoryOf, Global, Tag, Definition, Field, TypeField, RecField, ImportField, Define, ExportField, StartField, ElemField, DataField, CustomField}
use Rattle.wast_meaning.specs.Written.{field_of, export_of, segment_of, kind_of, name_or, field_out, written_from, written_out}

module _ {N P : Type 0} (naming : ℕ → N) where
  again_segment : (k : ℕ) (p : P) (id : Named N P) (d : Defined N P) → written_from naming k (segment_of p id d) ≡ segment_of p id d
  again_segment k p id (Imported from name t) = refl
  again_segment k p id (Func f) = refl
  again_segment k p id (Table t init) = refl
  again_segment k p id (TableOf wide t es) = refl
  again_segment k p id (Memory t) = refl
  again_segment k p id (MemoryOf wide page vs) = refl
  again_segment k p id (Global t init) = refl
  again_segment k p id (Tag u) = refl

  again_field : (n : N) (p : P) (id : Option (Named N P)) (given : Option (List ℕ)) (d : Defined N P) → field_out n (field_of p id given d) ≡ field_of p id given d ∷ []
  again_field n p id given (Imported from name t) = refl
  again_field n p id given (Func f) = refl
  again_field n p id given (Table t init) = refl
  again_field n p id given (TableOf wide t es) = refl
  again_field n p id given (Memory t) = refl
  again_field n p id given (MemoryOf wide page vs) = refl
  again_field n p id given (Global t init) = refl
  again_field n p id given (Tag u) = refl

  again_exports : (k : ℕ) (p : P) (kind : ExportKind) (id : Named N P) (es : List (List ℕ)) (rest : List (Field N P)) → ((j : ℕ) → written_from naming j rest ≡ rest) →
      written_from naming k (map (export_of p kind id) es ++ rest) ≡ map (export_of p kind id) es ++ rest
  again_exports k p kind id [] rest h = h k
  again_exports k p kind id (e ∷ es) rest h = ap (λ v. export_of p kind id e ∷ v) (again_exports (suc k) p kind id es rest h)

  again_definition : (k : ℕ) (d : Definition N P) (id : Option (Named N P)) (own : Named N P) →
      written_from naming k (field_of d.place id d.given d.defined ∷ (map (export_of d.place (kind_of d.defined) own) d.exports ++ segment_of d.place own d.defined))
      ≡ field_of d.place id d.given d.defined ∷ (map (export_of d.place (kind_of d.defined) own) d.exports ++ segment_of d.place own d.defined)
  again_definition k d id own =
      ap (λ v. v ++ written_from naming (suc k) (map (export_of d.place (kind_of d.defined) own) d.exports ++ segment_of d.place own d.defined)) (again_field (naming k) d.place id d.given d.defined)
      ∙ ap (λ v. field_of d.place id d.given d.defined ∷ v) (again_exports (suc k) d.place (kind_of d.defined) own d.exports (segment_of d.place own d.defined) (λ j. again_segment j d.place own d.defined))

  again_written : (k : ℕ) (n : N) (f : Field N P) → written_from naming k (field_out n f) ≡ field_out n f
  again_written k n (Define d) = again_definition k d _ (name_or n d)
  again_written k n (TypeField t) = refl
  again_written k n (RecField r) = refl
  again_written k n (ImportField i) = refl
  again_written k n (ExportField e) = refl
  again_written k n (StartField s) = refl
  again_written k n (ElemField e) = refl
  again_written k n (DataField d) = refl
  again_written k n (CustomField c) = refl

  of_both : (k : ℕ) (xs ys : List (Field N P)) → written_from naming k (xs ++ ys) ≡ written_from naming k xs ++ written_from naming (k + length xs) ys
  of_both k [] ys = ap (λ n. written_from naming n ys) (let e : k ≡ k + 0 = omega arith in e)
  of_both k (x ∷ xs) ys =
      ap (λ v. field_out (naming k) x ++ v) (of_both (suc k) xs ys ∙ ap (λ n. written_from naming (suc k) xs ++ written_from naming n ys) (let e : suc k + length xs ≡ k + suc (length xs) = omega arith in e))
      ∙ sym (append_assoc (field_out (naming k) x) (written_from naming (suc k) xs) (written_from naming (k + suc (length xs)) ys))

  again_from : (first : ℕ → N) (k n : ℕ) (fs : List (Field N P)) → written_from naming k (written_from first n fs) ≡ written_from first n fs
  again_from first k n [] = refl
  again_from first k n (f ∷ fs) =
      of_both k (field_out (first n) f) (written_from first (suc n) fs)
      ∙ ap (λ v. v ++ written_from naming (k + length (field_out (first n) f)) (written_from first (suc n) fs)) (again_written k (first n) f)
      ∙ ap (λ v. field_out (first n) f ++ v) (again_from first (k + length (field_out (first n) f)) (suc n) fs)

-- so a list and what it is written out as have the same demands, and are resolved to the same
pub written_again : {N P : Type 0} (first naming : ℕ → N) (fs : List (Field N P)) → written_out naming (written_out first fs) ≡ written_out first fs
written_again first naming fs = again_from naming first 0 0 fs
