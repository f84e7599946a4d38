-- What fields are written out as: the same types, uses, items and demands in the same order, but for the names that are made.
use Rattle.std.proofs.Common.{◌≡◌, ℕ, suc, Bool, true, false, List, [], ◌∷◌, ◌++◌, map, Option, Some, None, refl, sym, ◌∙◌, ap, append_assoc}
use Rattle.std.specs.Prelude.{if◌then◌else◌, filter, filter_map, slice_get, option_and_then}
use Rattle.std.specs.List.{flat_map, position_from}
use Rattle.std.proofs.lemmas.Bool.{or_left, or_right}
use Rattle.std.proofs.lemmas.List.{map-append, append-nil}
use Rattle.std.proofs.lemmas.List.Elements.{filter-append}
use Rattle.std.proofs.lemmas.Grind.{flat_map-append}
use Rattle.wasm_encoder_base.specs.Table.{Space, Types, Tables}
use Rattle.wast_parser.specs.Identifiers.{Named, ByName}
use Rattle.wast_names.specs.Demand.{Demand}
use Rattle.wast_names.specs.Walk.{walked}
use Rattle.wast_signatures.specs.TypeTree.{Sig}
use Rattle.wast_exports.specs.Exports as exports
use Rattle.wast_imports.specs.ImportTree.{ExternType, OfFunc, OfExactFunc, OfTable, OfMemory, OfGlobal, OfTag}
use Rattle.wast_field_syntax.specs.FieldTree.{Defined, Imported, Func, Table, TableOf, Memory, MemoryOf, Global, Tag, Definition, ActiveElem, ActiveData, Field, TypeField, RecField, ImportField, Define, ExportField, StartField, ElemField, DataField, CustomField}
use Rattle.wast_meaning.specs.Written.{has_any, space_of_kind, kind_of, zero_offset, field_of, export_of, segment_of, has_segment, is_said, name_or, definition_out, field_out, written_from, written_out}
use Rattle.wast_meaning.specs.Mentions.{Refers, Part, Says, Constant, ref_mentions, says, elements_parts, defined_parts, parts, part_mentions}
use Rattle.wast_meaning.specs.Spaces.{Bound, bound, same_space, bound_segment, items, items_in, fields_at}
use Rattle.wast_meaning.specs.Implied.{same_option, same_sig, same_written, sig_of_mention, used_sigs, written_types, plain_sig, implied_by, implied, sig_at, type_taken}
use Rattle.wast_meaning.specs.Demands.{nearest, order_demand, order_demands}
use Rattle.wast_meaning.proofs.Settled.{two}
use Rattle.wast_resolve_laws.proofs.Sigs.{sig_of_type, implied_sig, placed}

module _ {N P : Type 0} where
  -- a definition with these exports
  abbrev defining : P → Option (Named N P) → Option (List ℕ) → List (List ℕ) → Defined N P → Field N P
  defining p id given es d = Define (record { place = p; id = id; given = given; exports = es; defined = d })

  -- THE ORDER OF IMPORTS
  abbrev pub order_from : Option Space → List (Field N P) → List (Demand N P)
  order_from before fs = walked order_demand nearest before fs

  after_exports : (before : Option Space) (p : P) (kind : exports.ExportKind) (id : Named N P) (es : List (List ℕ)) (rest : List (Field N P)) →
      order_from before (map (export_of p kind id) es ++ rest) ≡ order_from before rest
  after_exports before p kind id [] rest = refl
  after_exports before p kind id (e ∷ es) rest = after_exports before p kind id es rest

  after_segment : (before : Option Space) (p : P) (id : Named N P) (d : Defined N P) (rest : List (Field N P)) → order_from before (segment_of p id d ++ rest) ≡ order_from before rest
  after_segment before p id (Imported from name t) rest = refl
  after_segment before p id (Func f) rest = refl
  after_segment before p id (Table t init) rest = refl
  after_segment before p id (TableOf wide t es) rest = refl
  after_segment before p id (Memory t) rest = refl
  after_segment before p id (MemoryOf wide page vs) rest = refl
  after_segment before p id (Global t init) rest = refl
  after_segment before p id (Tag u) rest = refl

  order_first : (before : Option Space) (p : P) (id own : Option (Named N P)) (given : Option (List ℕ)) (es : List (List ℕ)) (d : Defined N P) (rest : List (Field N P)) →
      order_from before (field_of p own given d ∷ rest) ≡ order_from before (defining p id given es d ∷ rest)
  order_first before p id own given es (Imported from name t) rest = refl
  order_first before p id own given es (Func f) rest = refl
  order_first before p id own given es (Table t init) rest = refl
  order_first before p id own given es (TableOf wide t xs) rest = refl
  order_first before p id own given es (Memory t) rest = refl
  order_first before p id own given es (MemoryOf wide page vs) rest = refl
  order_first before p id own given es (Global t init) rest = refl
  order_first before p id own given es (Tag u) rest = refl

  -- a definition's own name, where it is said or there
  abbrev pub id_out : N → Definition N P → Option (Named N P)
  id_out n d = if is_said d then Some (name_or n d) else d.id

  abbrev exports_out : N → Definition N P → List (Field N P)
  exports_out n d = map (export_of d.place (kind_of d.defined) (name_or n d)) d.exports

  abbrev segment_out : N → Definition N P → List (Field N P)
  segment_out n d = segment_of d.place (name_or n d) d.defined

  order_out : (n : N) (before : Option Space) (f : Field N P) (rest : List (Field N P)) → order_from before (field_out n f ++ rest) ≡ order_from before (f ∷ rest)
  order_out n before (Define d) rest =
      let first = field_of d.place (id_out n d) d.given d.defined in
      ap (λ l. order_demand before first ++ l)
      (ap (order_from (nearest before first)) (append_assoc (exports_out n d) (segment_out n d) rest)
      ∙ after_exports (nearest before first) d.place (kind_of d.defined) (name_or n d) d.exports (segment_out n d ++ rest)
      ∙ after_segment (nearest before first) d.place (name_or n d) d.defined rest)
      ∙ order_first before d.place d.id (id_out n d) d.given d.exports d.defined rest
  order_out n before (TypeField t) rest = refl
  order_out n before (RecField r) rest = refl
  order_out n before (ImportField i) rest = refl
  order_out n before (ExportField e) rest = refl
  order_out n before (StartField s) rest = refl
  order_out n before (ElemField e) rest = refl
  order_out n before (DataField d) rest = refl
  order_out n before (CustomField x) rest = refl

  order_all : (naming : ℕ → N) (k : ℕ) (before : Option Space) (fs : List (Field N P)) → order_from before (written_from naming k fs) ≡ order_from before fs
  order_all naming k before [] = refl
  order_all naming k before (f ∷ fs) = order_out (naming k) before f (written_from naming (suc k) fs) ∙ ap (λ l. order_demand before f ++ l) (order_all naming (suc k) (nearest before f) fs)

  pub order_written : (naming : ℕ → N) (fs : List (Field N P)) → order_demands (written_out naming fs) ≡ order_demands fs
  order_written naming fs = order_all naming 0 None fs

  -- WHAT EXPORTS HAVE NO PART IN
  module _ {A : Type 0} (h : Field N P → List A) (quiet : (e : exports.Export N P) → h (ExportField e) ≡ []) where
    no_exports : (p : P) (kind : exports.ExportKind) (id : Named N P) (es : List (List ℕ)) (rest : List (Field N P)) → flat_map h (map (export_of p kind id) es ++ rest) ≡ flat_map h rest
    no_exports p kind id [] rest = refl
    no_exports p kind id (e ∷ es) rest = two (λ a b. a ++ b) (quiet (record { place = p; name = e; kind = kind; item = ByName id })) (no_exports p kind id es rest)

    -- a definition is its field and its segment
    but_exports : (n : N) (d : Definition N P) → flat_map h (definition_out n d) ≡ h (field_of d.place (id_out n d) d.given d.defined) ++ flat_map h (segment_out n d)
    but_exports n d = ap (λ l. h (field_of d.place (id_out n d) d.given d.defined) ++ l) (no_exports d.place (kind_of d.defined) (name_or n d) d.exports (segment_out n d))

  -- WRITTEN TYPES
  types_first : (p : P) (id : Option (Named N P)) (given : Option (List ℕ)) (own : Named N P) (d : Defined N P) → written_types (field_of p id given d) ++ flat_map written_types (segment_of p own d) ≡ []
  types_first p id given own (Imported from name t) = refl
  types_first p id given own (Func f) = refl
  types_first p id given own (Table t init) = refl
  types_first p id given own (TableOf wide t es) = refl
  types_first p id given own (Memory t) = refl
  types_first p id given own (MemoryOf wide page vs) = refl
  types_first p id given own (Global t init) = refl
  types_first p id given own (Tag u) = refl

  types_out : (n : N) (f : Field N P) → flat_map written_types (field_out n f) ≡ written_types f
  types_out n (Define d) = but_exports written_types (λ e. refl) n d ∙ types_first d.place (id_out n d) d.given (name_or n d) d.defined
  types_out n (TypeField t) = append-nil (written_types (TypeField t))
  types_out n (RecField r) = append-nil (written_types (RecField r))
  types_out n (ImportField i) = refl
  types_out n (ExportField e) = refl
  types_out n (StartField s) = refl
  types_out n (ElemField e) = refl
  types_out n (DataField d) = refl
  types_out n (CustomField x) = refl

  -- field by field
  each_out : {A : Type 0} (h : Field N P → List A) → ((n : N) (f : Field N P) → flat_map h (field_out n f) ≡ h f) → (naming : ℕ → N) (k : ℕ) (fs : List (Field N P)) → flat_map h (written_from naming k fs) ≡ flat_map h fs
  each_out h so naming k [] = refl
  each_out h so naming k (f ∷ fs) =
      flat_map-append h (field_out (naming k) f) (written_from naming (suc k) fs) ∙ two (λ a b. a ++ b) (so (naming k) f) (each_out h so naming (suc k) fs)

  types_written : (naming : ℕ → N) (fs : List (Field N P)) → flat_map written_types (written_out naming fs) ≡ flat_map written_types fs
  types_written naming fs = each_out written_types types_out naming 0 fs

  -- PARTS: what names are made for is said besides
  module _ {A : Type 0} (g : Part N P → List A) (quiet : (wide : Bool) → g (Constant (zero_offset wide)) ≡ []) where
    abbrev Own : exports.ExportKind → Named N P → Type 0
    Own kind own = g (Says (Refers (space_of_kind kind) (ByName own))) ≡ []

    parts_first : (p : P) (id : Option (Named N P)) (given : Option (List ℕ)) (own : Named N P) (d : Defined N P) → (has_segment d ≡ true → Own (kind_of d) own) →
        flat_map g (parts (field_of p id given d)) ++ flat_map g (flat_map parts (segment_of p own d)) ≡ flat_map g (defined_parts d)
    parts_first p id given own (Imported from name t) h = append-nil (flat_map g (defined_parts (Imported from name t)))
    parts_first p id given own (Func f) h = append-nil (flat_map g (defined_parts (Func f)))
    parts_first p id given own (Table t init) h = append-nil (flat_map g (defined_parts (Table t init)))
    parts_first p id given own (TableOf wide t es) h =
        ap (λ l. flat_map g l ++ (g (Says (Refers Tables (ByName own))) ++ (g (Constant (zero_offset wide)) ++ flat_map g (elements_parts es ++ [])))) (append-nil (says (ref_mentions t)))
        ∙ two (λ a b. flat_map g (says (ref_mentions t)) ++ (a ++ (b ++ flat_map g (elements_parts es ++ [])))) (h refl) (quiet wide)
        ∙ ap (λ l. flat_map g (says (ref_mentions t)) ++ flat_map g l) (append-nil (elements_parts es))
        ∙ sym (flat_map-append g (says (ref_mentions t)) (elements_parts es))
    parts_first p id given own (Memory t) h = refl
    parts_first p id given own (MemoryOf wide page vs) h = two (λ a b. a ++ (b ++ [])) (h refl) (quiet wide)
    parts_first p id given own (Global t init) h = append-nil (flat_map g (defined_parts (Global t init)))
    parts_first p id given own (Tag u) h = append-nil (flat_map g (defined_parts (Tag u)))

    abbrev said_by : Field N P → List A
    said_by f = flat_map g (parts f)

    joined_parts : (fs : List (Field N P)) → flat_map said_by fs ≡ flat_map g (flat_map parts fs)
    joined_parts [] = refl
    joined_parts (f ∷ fs) = ap (λ l. said_by f ++ l) (joined_parts fs) ∙ sym (flat_map-append g (parts f) (flat_map parts fs))

    quiet_exports : (p : P) (kind : exports.ExportKind) (own : Named N P) (es : List (List ℕ)) (rest : List (Field N P)) → (has_any es ≡ true → Own kind own) →
        flat_map said_by (map (export_of p kind own) es ++ rest) ≡ flat_map said_by rest
    quiet_exports p kind own [] rest h = refl
    quiet_exports p kind own (e ∷ es) rest h = two (λ a b. (a ++ []) ++ b) (h refl) (quiet_exports p kind own es rest (λ x. h refl))

    -- what a definition's name makes quiet
    abbrev pub OwnQuiet : N → Field N P → Type 0
    OwnQuiet n (Define d) = is_said d ≡ true → Own (kind_of d.defined) (name_or n d)
    OwnQuiet n f = Unit {0}

    pub parts_out : (n : N) (f : Field N P) → OwnQuiet n f → flat_map said_by (field_out n f) ≡ said_by f
    parts_out n (Define d) h =
        ap (λ l. said_by (field_of d.place (id_out n d) d.given d.defined) ++ l)
        (quiet_exports d.place (kind_of d.defined) (name_or n d) d.exports (segment_out n d) (λ e. h (or_left (has_any d.exports) (has_segment d.defined) e)) ∙ joined_parts (segment_out n d))
        ∙ parts_first d.place (id_out n d) d.given (name_or n d) d.defined (λ e. h (or_right (has_any d.exports) (has_segment d.defined) e))
    parts_out n (TypeField t) h = append-nil (said_by (TypeField t))
    parts_out n (RecField r) h = append-nil (said_by (RecField r))
    parts_out n (ImportField i) h = append-nil (said_by (ImportField i))
    parts_out n (ExportField e) h = append-nil (said_by (ExportField e))
    parts_out n (StartField s) h = append-nil (said_by (StartField s))
    parts_out n (ElemField e) h = append-nil (said_by (ElemField e))
    parts_out n (DataField d) h = append-nil (said_by (DataField d))
    parts_out n (CustomField x) h = refl

  -- USES
  abbrev used_in : P → Part N P → List (P × Sig N P)
  used_in p x = map (placed p) (flat_map sig_of_mention (part_mentions x))

  used_parts : (p : P) (xs : List (Part N P)) → map (placed p) (flat_map sig_of_mention (flat_map part_mentions xs)) ≡ flat_map (used_in p) xs
  used_parts p [] = refl
  used_parts p (x ∷ xs) =
      ap (λ l. map (placed p) l) (flat_map-append sig_of_mention (part_mentions x) (flat_map part_mentions xs))
      ∙ map-append (placed p) (flat_map sig_of_mention (part_mentions x)) (flat_map sig_of_mention (flat_map part_mentions xs))
      ∙ ap (λ l. used_in p x ++ l) (used_parts p xs)

  used_first : (p : P) (id : Option (Named N P)) (given : Option (List ℕ)) (d : Defined N P) → used_sigs (field_of p id given d) ≡ flat_map (used_in p) (parts (field_of p id given d))
  used_first p id given (Imported from name t) = used_parts p (parts (field_of p id given (Imported from name t)))
  used_first p id given (Func f) = used_parts p (parts (field_of p id given (Func f)))
  used_first p id given (Table t init) = used_parts p (parts (field_of p id given (Table t init)))
  used_first p id given (TableOf wide t es) = used_parts p (parts (field_of p id given (TableOf wide t es)))
  used_first p id given (Memory t) = refl
  used_first p id given (MemoryOf wide page vs) = refl
  used_first p id given (Global t init) = used_parts p (parts (field_of p id given (Global t init)))
  used_first p id given (Tag u) = used_parts p (parts (field_of p id given (Tag u)))

  used_segment : (p : P) (own : Named N P) (d : Defined N P) → flat_map used_sigs (segment_of p own d) ≡ flat_map (used_in p) (flat_map parts (segment_of p own d))
  used_segment p own (Imported from name t) = refl
  used_segment p own (Func f) = refl
  used_segment p own (Table t init) = refl
  used_segment p own (TableOf wide t es) =
      let segment = ElemField (record { place = p; id = None; given = None; mode = ActiveElem (Some (ByName own)) (zero_offset wide); elements = es }) in
      ap (λ l. l ++ []) (used_parts p (parts segment)) ∙ sym (flat_map-append (used_in p) (parts segment) [])
  used_segment p own (Memory t) = refl
  used_segment p own (MemoryOf wide page vs) =
      let segment = DataField (record { place = p; id = None; given = None; mode = ActiveData (Some (ByName own)) (zero_offset wide); values = vs }) in
      ap (λ l. l ++ []) (used_parts p (parts segment)) ∙ sym (flat_map-append (used_in p) (parts segment) [])
  used_segment p own (Global t init) = refl
  used_segment p own (Tag u) = refl

  zero_unused : (p : P) (wide : Bool) → used_in p (Constant (zero_offset wide)) ≡ []
  zero_unused p true = refl
  zero_unused p false = refl

  used_out : (n : N) (f : Field N P) → flat_map used_sigs (field_out n f) ≡ used_sigs f
  used_out n (Define d) =
      but_exports used_sigs (λ e. refl) n d
      ∙ two (λ a b. a ++ b) (used_first d.place (id_out n d) d.given d.defined) (used_segment d.place (name_or n d) d.defined)
      ∙ parts_first (used_in d.place) (zero_unused d.place) d.place (id_out n d) d.given (name_or n d) d.defined (λ e. refl)
      ∙ sym (used_parts d.place (defined_parts d.defined))
  used_out n (TypeField t) = append-nil (used_sigs (TypeField t))
  used_out n (RecField r) = append-nil (used_sigs (RecField r))
  used_out n (ImportField i) = append-nil (used_sigs (ImportField i))
  used_out n (ExportField e) = append-nil (used_sigs (ExportField e))
  used_out n (StartField s) = append-nil (used_sigs (StartField s))
  used_out n (ElemField e) = append-nil (used_sigs (ElemField e))
  used_out n (DataField d) = append-nil (used_sigs (DataField d))
  used_out n (CustomField x) = refl

  uses_written : (naming : ℕ → N) (fs : List (Field N P)) → flat_map used_sigs (written_out naming fs) ≡ flat_map used_sigs fs
  uses_written naming fs = each_out used_sigs used_out naming 0 fs

  -- ITEMS
  items_first : (p : P) (id : Option (Named N P)) (given : Option (List ℕ)) (own : Named N P) (d : Defined N P) →
      items (field_of p id given d) ++ flat_map items (segment_of p own d) ≡ bound (space_of_kind (kind_of d)) id given ∷ bound_segment d
  items_first p id given own (Imported from name t) = refl
  items_first p id given own (Func f) = refl
  items_first p id given own (Table t init) = refl
  items_first p id given own (TableOf wide t es) = refl
  items_first p id given own (Memory t) = refl
  items_first p id given own (MemoryOf wide page vs) = refl
  items_first p id given own (Global t init) = refl
  items_first p id given own (Tag u) = refl

  pub items_out : (n : N) (d : Definition N P) → flat_map items (definition_out n d) ≡ bound (space_of_kind (kind_of d.defined)) (id_out n d) d.given ∷ bound_segment d.defined
  items_out n d = but_exports items (λ e. refl) n d ∙ items_first d.place (id_out n d) d.given (name_or n d) d.defined

  -- of which none is a type
  abbrev types_among : List (Bound N P) → List (Bound N P)
  types_among bs = filter (λ b. same_space Types b.space) bs

  no_type_imported : (id : Option (Named N P)) (given : Option (List ℕ)) (from name : List ℕ) (t : ExternType N P) → types_among (bound (space_of_kind (kind_of (Imported from name t))) id given ∷ []) ≡ []
  no_type_imported id given from name (OfFunc u) = refl
  no_type_imported id given from name (OfExactFunc u) = refl
  no_type_imported id given from name (OfTable t) = refl
  no_type_imported id given from name (OfMemory t) = refl
  no_type_imported id given from name (OfGlobal t) = refl
  no_type_imported id given from name (OfTag u) = refl

  no_type_defined : (id : Option (Named N P)) (given : Option (List ℕ)) (d : Defined N P) → types_among (bound (space_of_kind (kind_of d)) id given ∷ bound_segment d) ≡ []
  no_type_defined id given (Imported from name t) = no_type_imported id given from name t
  no_type_defined id given (Func f) = refl
  no_type_defined id given (Table t init) = refl
  no_type_defined id given (TableOf wide t es) = refl
  no_type_defined id given (Memory t) = refl
  no_type_defined id given (MemoryOf wide page vs) = refl
  no_type_defined id given (Global t init) = refl
  no_type_defined id given (Tag u) = refl

  type_items_out : (n : N) (f : Field N P) → types_among (flat_map items (field_out n f)) ≡ types_among (items f)
  type_items_out n (Define d) = ap types_among (items_out n d) ∙ no_type_defined (id_out n d) d.given d.defined ∙ sym (no_type_defined d.id d.given d.defined)
  type_items_out n (TypeField t) = refl
  type_items_out n (RecField r) = ap types_among (append-nil (items (RecField r)))
  type_items_out n (ImportField i) = ap types_among (append-nil (items (ImportField i)))
  type_items_out n (ExportField e) = refl
  type_items_out n (StartField s) = refl
  type_items_out n (ElemField e) = refl
  type_items_out n (DataField d) = refl
  type_items_out n (CustomField x) = refl

  type_items_from : (naming : ℕ → N) (k : ℕ) (fs : List (Field N P)) → types_among (flat_map items (written_from naming k fs)) ≡ types_among (flat_map items fs)
  type_items_from naming k [] = refl
  type_items_from naming k (f ∷ fs) =
      ap types_among (flat_map-append items (field_out (naming k) f) (written_from naming (suc k) fs))
      ∙ filter-append (λ (b : Bound N P). same_space Types b.space) (flat_map items (field_out (naming k) f)) (flat_map items (written_from naming (suc k) fs))
      ∙ two (λ a b. a ++ b) (type_items_out (naming k) f) (type_items_from naming (suc k) fs)
      ∙ sym (filter-append (λ (b : Bound N P). same_space Types b.space) (items f) (flat_map items fs))

  pub type_items_written : (naming : ℕ → N) (fs : List (Field N P)) → items_in Types (written_out naming fs) ≡ items_in Types fs
  type_items_written naming fs = type_items_from naming 0 fs

  pub fields_written : (naming : ℕ → N) (fs : List (Field N P)) (t : ℕ) → fields_at (written_out naming fs) t ≡ fields_at fs t
  fields_written naming fs t = ap (λ (bs : List (Bound N P)). elim (slice_get bs t) [ Some b ↦ b.fields | None ↦ [] ]) (type_items_written naming fs)

-- TYPES
module _ {N P : Type 0} (eq : N → N → Bool) (naming : ℕ → N) (fs : List (Field N P)) where
  pub implied_written : implied eq (written_out naming fs) ≡ implied eq fs
  implied_written = two (λ ts us. implied_by eq (filter_map plain_sig ts) us) (types_written naming fs) (uses_written naming fs)

  pub sig_written : (n : ℕ) → sig_at eq (written_out naming fs) n ≡ sig_at eq fs n
  sig_written n = two (λ ts us. option_and_then (λ s. s) (slice_get (map sig_of_type ts ++ map implied_sig us) n)) (types_written naming fs) implied_written

  pub taken_written : (s : Sig N P) → type_taken eq (written_out naming fs) s ≡ type_taken eq fs s
  taken_written s =
      two (λ ts us. position_from (same_option (same_sig (same_written eq)) (Some s)) 0 (map plain_sig ts ++ map implied_sig us)) (types_written naming fs) implied_written
