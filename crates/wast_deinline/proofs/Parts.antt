-- What definitions are written out as, by what they define.
use Rattle.std.proofs.Common.{◌≡◌, ℕ, ◌+◌, Bool, true, false, List, [], ◌∷◌, ◌++◌, map, Option, Some, refl, sym, ◌∙◌, ap, append_assoc}
use Rattle.std.specs.Prelude.{◌||◌, ◌&&◌, not, is_some, if◌then◌else◌}
use Rattle.std.proofs.lemmas.List.{map-append}
use Rattle.wast_parser.specs.Identifiers.{Named}
use Rattle.wast_exports.specs.Exports.{ExportKind}
use Rattle.wast_module_fields.specs.FieldTree.{Defined, Imported, Func, Table, TableOf, Memory, MemoryOf, Global, Tag, Definition, Field, TypeField, RecField, ImportField, Define, ExportField, StartField, ElemField, DataField, CustomField}
use Rattle.wast_meaning.specs.Written.{alone, definition_out, export_of, field_of, field_out, has_any, has_segment, is_said, kind_of, name_or, segment_of, takes_name}
use Rattle.wast_deinline.specs.Definitions.{is_definition, parts_out}

module _ {N P : Type 0} where
  -- what defines nothing stays, and takes no name
  pub stays : (fresh : N) (f : Field N P) → is_definition f ≡ false → field_out fresh f ≡ f ∷ []
  stays fresh (Define d) h = absurd (cc)
  stays fresh (TypeField t) h = refl
  stays fresh (RecField r) h = refl
  stays fresh (ImportField i) h = refl
  stays fresh (ExportField e) h = refl
  stays fresh (StartField s) h = refl
  stays fresh (ElemField e) h = refl
  stays fresh (DataField d) h = refl
  stays fresh (CustomField c) h = refl

  pub takes_none : (f : Field N P) → is_definition f ≡ false → takes_name f ≡ false
  takes_none (Define d) h = absurd (cc)
  takes_none (TypeField t) h = refl
  takes_none (RecField r) h = refl
  takes_none (ImportField i) h = refl
  takes_none (ExportField e) h = refl
  takes_none (StartField s) h = refl
  takes_none (ElemField e) h = refl
  takes_none (DataField d) h = refl
  takes_none (CustomField c) h = refl

  -- what is referred to by nothing
  unsaid : (fresh : N) (p : P) (id : Option (Named N P)) (given : Option (List ℕ)) (es : List (List ℕ)) (d : Defined N P) → (has_any es || has_segment d) ≡ false
      → definition_out fresh (record { place = p; id = id; given = given; exports = es; defined = d }) ≡ field_of p id given d ∷ []
  unsaid fresh p id given (e ∷ es) d h = absurd (cc)
  unsaid fresh p id given [] (Imported from name t) h = refl
  unsaid fresh p id given [] (Func f) h = refl
  unsaid fresh p id given [] (Table t init) h = refl
  unsaid fresh p id given [] (TableOf wide t es) h = absurd (cc)
  unsaid fresh p id given [] (Memory t) h = refl
  unsaid fresh p id given [] (MemoryOf wide page vs) h = absurd (cc)
  unsaid fresh p id given [] (Global t init) h = refl
  unsaid fresh p id given [] (Tag u) h = refl

  pub unsaid_out : (fresh : N) (d : Definition N P) → is_said d ≡ false → definition_out fresh d ≡ field_of d.place d.id d.given d.defined ∷ []
  unsaid_out fresh d h = unsaid fresh d.place d.id d.given d.exports d.defined h

  no_segment : (es : List (List ℕ)) (d : Defined N P) → (has_any es || has_segment d) ≡ false → has_segment d ≡ false
  no_segment [] d h = h
  no_segment (e ∷ es) d h = absurd (cc)

  pub unsaid_segment : (d : Definition N P) → is_said d ≡ false → has_segment d.defined ≡ false
  unsaid_segment d h = no_segment d.exports d.defined h

  -- what is referred to by its name or a fresh one
  pub said_out : (fresh : N) (d : Definition N P) → is_said d ≡ true → definition_out fresh d ≡ parts_out (name_or fresh d) (record d { id = Some (name_or fresh d) })
  said_out fresh d h =
      ap (λ b. field_of d.place (if b then Some (name_or fresh d) else d.id) d.given d.defined ∷ map (export_of d.place (kind_of d.defined) (name_or fresh d)) d.exports ++ segment_of d.place (name_or fresh d) d.defined) h

  -- whether a name is taken
  pub takes_unsaid : (d : Definition N P) → is_said d ≡ false → takes_name (Define d) ≡ false
  takes_unsaid d h = ap (λ b. b && not (is_some d.id)) h

  pub takes_said : (d : Definition N P) → is_said d ≡ true → takes_name (Define d) ≡ not (is_some d.id)
  takes_said d h = ap (λ b. b && not (is_some d.id)) h

  -- what stands alone has no segment, and is the same field
  pub alone_segment : (d : Defined N P) → has_segment (alone d) ≡ false
  alone_segment (Imported from name t) = refl
  alone_segment (Func f) = refl
  alone_segment (Table t init) = refl
  alone_segment (TableOf wide t es) = refl
  alone_segment (Memory t) = refl
  alone_segment (MemoryOf wide page vs) = refl
  alone_segment (Global t init) = refl
  alone_segment (Tag u) = refl

  pub alone_field : (p : P) (id : Option (Named N P)) (given : Option (List ℕ)) (d : Defined N P) → field_of p id given (alone d) ≡ field_of p id given d
  alone_field p id given (Imported from name t) = refl
  alone_field p id given (Func f) = refl
  alone_field p id given (Table t init) = refl
  alone_field p id given (TableOf wide t es) = refl
  alone_field p id given (Memory t) = refl
  alone_field p id given (MemoryOf wide page vs) = refl
  alone_field p id given (Global t init) = refl
  alone_field p id given (Tag u) = refl

  -- the same, as it is referred to
  pub said_parts : (fresh : N) (d : Definition N P) (own copy : Named N P) → is_said d ≡ true → own ≡ name_or fresh d → copy ≡ own → parts_out own (record d { id = Some copy }) ≡ definition_out fresh d
  said_parts fresh d own copy said is same =
      ap (λ k. parts_out own (record d { id = Some k })) same ∙ ap (λ k. parts_out k (record d { id = Some k })) is ∙ sym (said_out fresh d said)

  pub said_count : (d : Definition N P) (n m : ℕ) → is_said d ≡ true → m ≡ (if is_some d.id then n else n + 1) → m ≡ (if takes_name (Define d) then n + 1 else n)
  said_count d n m said is = is ∙ turned (is_some d.id) ∙ ap (λ b. if b then n + 1 else n) (sym (takes_said d said))
    where
      turned : (b : Bool) → (if b then n else n + 1) ≡ (if not b then n + 1 else n)
      turned true = refl
      turned false = refl

  pub unsaid_count : (d : Definition N P) (n : ℕ) → is_said d ≡ false → n ≡ (if takes_name (Define d) then n + 1 else n)
  unsaid_count d n unsaid = ap (λ b. if b then n + 1 else n) (sym (takes_unsaid d unsaid))

-- lists to which something is appended, and then more
pub then_more : {A : Type 0} (a b c es ss : List A) → b ≡ a ++ es → c ≡ b ++ ss → c ≡ a ++ (es ++ ss)
then_more a b c es ss first second = second ∙ ap (λ l. l ++ ss) first ∙ append_assoc a es ss

pub one_then : {A : Type 0} (a b c : List A) (f g : A) (rest : List A) → b ≡ a ++ f ∷ [] → f ≡ g → c ≡ b ++ rest → c ≡ a ++ (g ∷ rest)
one_then a b c f g rest first same second = second ∙ ap (λ l. l ++ rest) (first ∙ ap (λ x. a ++ x ∷ []) same) ∙ append_assoc a (g ∷ []) rest

-- the parts of a definition, from what stands alone
pub parts_alike : {N P : Type 0} (own : Named N P) (d : Definition N P) (whole : Defined N P) (kind : ExportKind) (segment : List (Field N P))
    → whole ≡ alone d.defined → kind ≡ kind_of d.defined → segment ≡ segment_of d.place own d.defined
    → (field_of d.place d.id d.given whole ∷ map (export_of d.place kind own) d.exports ++ segment) ≡ parts_out own d
parts_alike own d whole kind segment is same alike =
    ap (λ w. field_of d.place d.id d.given w ∷ map (export_of d.place kind own) d.exports ++ segment) is
    ∙ ap (λ f. f ∷ map (export_of d.place kind own) d.exports ++ segment) (alone_field d.place d.id d.given d.defined)
    ∙ ap (λ k. field_of d.place d.id d.given d.defined ∷ map (export_of d.place k own) d.exports ++ segment) same
    ∙ ap (λ l. field_of d.place d.id d.given d.defined ∷ map (export_of d.place (kind_of d.defined) own) d.exports ++ l) alike

-- one more of what is appended, as a view of a view shows it
pub more_mapped : {X Y Z : Type 0} (view : X → Y) (f : Y → Z) (first so_far more : List Z) (xs : List X) (x : X) → so_far ≡ first ++ map f (map view xs)
    → more ≡ so_far ++ f (view x) ∷ [] → more ≡ first ++ map f (map view (xs ++ x ∷ []))
more_mapped view f first so_far more xs x before after =
    after ∙ ap (λ l. l ++ f (view x) ∷ []) before ∙ append_assoc first (map f (map view xs)) (f (view x) ∷ [])
    ∙ ap (λ l. first ++ l) (sym (ap (map f) (map-append view xs (x ∷ [])) ∙ map-append f (map view xs) (view x ∷ [])))
