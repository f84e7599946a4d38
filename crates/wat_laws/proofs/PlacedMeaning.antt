-- Fields of which parts have places of their own are resolved to such fields, and stand for the same module.
use Rattle.std.proofs.Common.{◌≡◌, ℕ, Bool, false, List, [], ◌∷◌, ◌++◌, map, Option, Some, None, refl, sym, ◌∙◌, ap}
use Rattle.std.specs.Prelude.{slice_get, option_map}
use Rattle.std.specs.List.{flat_map}
use Rattle.std.proofs.Math.Path.{fun_ext}
use Rattle.std.proofs.lemmas.List.{map-append}
use Rattle.wasm_encoder_base.specs.Table.{Space, Types, Tables, Memories}
use Rattle.wasm_encoder_items.specs.Segments as segments
use Rattle.wast_parser.specs.Identifiers.{Named, Reference, ByNumber, ByName}
use Rattle.wast_names.specs.Space as names
use Rattle.wast_value_types.specs.ValueTree.{HeapType, Abstract, Concrete, Exact, TableType}
use Rattle.wast_signatures.specs.TypeTree.{Sig}
use Rattle.wast_customs.specs.CustomTree.{Custom}
use Rattle.wast_exports.specs.Exports as exports
use Rattle.wast_imports.specs.ImportTree.{ImportItems, Single, Group1, Group2}
use Rattle.wast_data.specs.DataTree.{DataVal}
use Rattle.wast_field_syntax.specs.FieldTree.{Elements, Indices, Expressions, Defined, Imported, Func, Table, TableOf, Memory, MemoryOf, Global, Tag, ElemMode, PassiveElem, DeclaredElem, ActiveElem, DataMode, PassiveData, ActiveData, Field, TypeField, RecField, ImportField, Define, ExportField, StartField, ElemField, DataField, CustomField, field_place}
use Rattle.wast_meaning.specs.Written.{space_of_kind}
use Rattle.wast_meaning.specs.Implied.{implied, type_taken}
use Rattle.wast_meaning.specs.Scope.{Scope, scope_of}
use Rattle.wast_meaning.specs.Changed.{Changes, table_type_changed, constant_changed, elements_changed, field_changed}
use Rattle.wast_meaning.specs.Numbered.{taking, with_types, implied_field, numberings, expanded, numbered}
use Rattle.wast_meaning.proofs.Settled.{two}
use Rattle.wasm_layout.specs.AbstractModule.{AbstractModule}
use Rattle.wasm_layout.specs.Lays.{no_names, bare}
use Rattle.wast_conversions.specs.Types.{heap_meant, limits_meant}
use Rattle.wast_meant.specs.FieldsMeant.{types_of, import_of, imports_of, defined_in, functions_of, tables_of, memories_of, tags_of, globals_of, exports_of, starts_of, element_of, elements_of, data_of, datas_of, values_of}
use Rattle.wast_meant.specs.NamesMeant.{GivenName, imported, imported_function, defined_function, bodies_in, hints_from}
use Rattle.wast_meant.specs.CustomsMeant.{customs_in, at_place, gaps_from, stops}
use Rattle.wast_meant.specs.Meaning.{without_customs, meant}
use Rattle.wast_meant_laws.proofs.Bare.{there_with, bare_so}
use Rattle.wat_laws.specs.Written.{Places, named_at, referred_at, heap_at, table_at, items_at, elem_mode_at, data_mode_at, placed, as_they_were, all_placed}
use Rattle.wat_laws.proofs.PlacedFields.{by_defined, by_field, same_each, placed_spaces, implied_same, taken_same, scope_same}

-- OTHER INDICES, by the place of the field: the index at another place becomes the same at that place
module _ {N P : Type 0} (cs : P → Changes N P) (moves : (p q : P) (s : Space) (r : P) (i : Reference N P) → (cs p).outside.index s (referred_at r i) ≡ referred_at r ((cs q).outside.index s i)) where
  abbrev changed : Field N P → Field N P
  changed f = field_changed (cs (field_place f)) f

  table_changed : (p q r : P) (t : TableType N P) → table_type_changed (cs p).outside (table_at r t) ≡ table_at r (table_type_changed (cs q).outside t)
  table_changed p q r t = of_heap t.element.heap_type
    where
      of_heap : (h : HeapType N P) →
          table_type_changed (cs p).outside (table_at r (record { limits = t.limits; shared = t.shared; element = record { nullable = t.element.nullable; heap_type = h } }))
          ≡ table_at r (table_type_changed (cs q).outside (record { limits = t.limits; shared = t.shared; element = record { nullable = t.element.nullable; heap_type = h } }))
      of_heap (Abstract shared w) = refl
      of_heap (Concrete i) = ap (λ j. record { limits = t.limits; shared = t.shared; element = record { nullable = t.element.nullable; heap_type = Concrete j } }) (moves p q Types r i)
      of_heap (Exact i) = ap (λ j. record { limits = t.limits; shared = t.shared; element = record { nullable = t.element.nullable; heap_type = Exact j } }) (moves p q Types r i)

  define_changed : (w : Places P) (p : P) (id : Option (Named N P)) (given : Option (List ℕ)) (es : List (List ℕ)) (d : Defined N P) →
      changed (placed w (Define (record { place = p; id = id; given = given; exports = es; defined = d }))) ≡ placed w (changed (Define (record { place = p; id = id; given = given; exports = es; defined = d })))
  define_changed w p id given es (Imported from name t) = refl
  define_changed w p id given es (Func f) = refl
  define_changed w p id given es (Table t None) =
      ap (λ (u : TableType N P). Define (record { place = w.field; id = option_map (named_at w.name) id; given = given; exports = es; defined = Table u None })) (table_changed w.field p w.heap t)
  define_changed w p id given es (Table t (Some e)) = refl
  define_changed w p id given es (TableOf wide t xs) = refl
  define_changed w p id given es (Memory t) = refl
  define_changed w p id given es (MemoryOf wide page vs) = refl
  define_changed w p id given es (Global t init) = refl
  define_changed w p id given es (Tag u) = refl

  import_changed : (w : Places P) (p : P) (from : List ℕ) (is : ImportItems N P) →
      changed (placed w (ImportField (record { place = p; from = from; items = is }))) ≡ placed w (changed (ImportField (record { place = p; from = from; items = is })))
  import_changed w p from (Single name i) = refl
  import_changed w p from (Group1 is) = refl
  import_changed w p from (Group2 names i) = refl

  elem_changed : (w : Places P) (p : P) (id : Option (Named N P)) (given : Option (List ℕ)) (m : ElemMode N P) (es : Elements N P) →
      changed (placed w (ElemField (record { place = p; id = id; given = given; mode = m; elements = es }))) ≡ placed w (changed (ElemField (record { place = p; id = id; given = given; mode = m; elements = es })))
  elem_changed w p id given PassiveElem es = refl
  elem_changed w p id given DeclaredElem es = refl
  elem_changed w p id given (ActiveElem None offset) es = refl
  elem_changed w p id given (ActiveElem (Some i) offset) es =
      ap (λ (j : Reference N P). ElemField (record { place = p; id = id; given = given; mode = ActiveElem (Some j) (constant_changed (cs p) offset); elements = elements_changed (cs p) es })) (moves p p Tables w.reference i)

  data_changed : (w : Places P) (p : P) (id : Option (Named N P)) (given : Option (List ℕ)) (m : DataMode N P) (vs : List DataVal) →
      changed (placed w (DataField (record { place = p; id = id; given = given; mode = m; values = vs }))) ≡ placed w (changed (DataField (record { place = p; id = id; given = given; mode = m; values = vs })))
  data_changed w p id given PassiveData vs = refl
  data_changed w p id given (ActiveData None offset) vs = refl
  data_changed w p id given (ActiveData (Some i) offset) vs =
      ap (λ (j : Reference N P). DataField (record { place = p; id = id; given = given; mode = ActiveData (Some j) (constant_changed (cs p) offset); values = vs })) (moves p p Memories w.reference i)

  pub changed_placed : (w : Places P) (f : Field N P) → changed (placed w f) ≡ placed w (changed f)
  changed_placed w (TypeField t) = refl
  changed_placed w (RecField r) = refl
  changed_placed w (ImportField i) = import_changed w i.place i.from i.items
  changed_placed w (Define d) = define_changed w d.place d.id d.given d.exports d.defined
  changed_placed w (ExportField e) =
      ap (λ (j : Reference N P). ExportField (record { place = w.field; name = e.name; kind = e.kind; item = j })) (moves w.field e.place (space_of_kind e.kind) w.reference e.item)
  changed_placed w (StartField s) = refl
  changed_placed w (ElemField e) = elem_changed w e.place e.id e.given e.mode e.elements
  changed_placed w (DataField d) = data_changed w d.place d.id d.given d.mode d.values
  changed_placed w (CustomField c) = refl

-- all at one place
abbrev anywhere : {P : Type 0} → P → Places P
anywhere p = record { field = p; item = p; name = p; reference = p; heap = p }

-- INDICES THAT ARE NUMBERS
module _ {N P : Type 0} where
  number_moved : (o : Option ℕ) (p q r : P) (n : N) → names.number_or o r (ByName (n, r)) ≡ referred_at r (names.number_or o q (ByName (n, q)))
  number_moved None p q r n = refl
  number_moved (Some k) p q r n = refl

  resolved_moved : (s : names.Space N) (r : P) (i : Reference N P) → names.resolved s (referred_at r i) ≡ referred_at r (names.resolved s i)
  resolved_moved s r (ByNumber n q) = refl
  resolved_moved s r (ByName id) = number_moved (s.look id.0) r id.1 r id.0

  -- EACH FIELD
  abbrev under : (Field N P → Field N P) → Places P × Field N P → Places P × Field N P
  under h x = (x.0, h x.1)

  placed_under : (h : Field N P → Field N P) → ((w : Places P) (f : Field N P) → h (placed w f) ≡ placed w (h f)) → (xs : List (Places P × Field N P)) → map h (all_placed xs) ≡ all_placed (map (under h) xs)
  placed_under h so [] = refl
  placed_under h so (x ∷ xs) = two (λ a b. a ∷ b) (so x.0 x.1) (placed_under h so xs)

  were_under : (h : Field N P → Field N P) (xs : List (Places P × Field N P)) → map h (as_they_were xs) ≡ as_they_were (map (under h) xs)
  were_under h [] = refl
  were_under h (x ∷ xs) = ap (λ l. h x.1 ∷ l) (were_under h xs)

  -- implied types stay where they are
  abbrev implied_part : P × Sig N P → Places P × Field N P
  implied_part u = (anywhere u.0, implied_field u)

  implied_placed : (us : List (P × Sig N P)) → map implied_field us ≡ all_placed (map implied_part us)
  implied_placed [] = refl
  implied_placed (u ∷ us) = ap (λ l. implied_field u ∷ l) (implied_placed us)

  implied_were : (us : List (P × Sig N P)) → map implied_field us ≡ as_they_were (map implied_part us)
  implied_were [] = refl
  implied_were (u ∷ us) = ap (λ l. implied_field u ∷ l) (implied_were us)

  -- fields that are placed, and what they were
  pub record ArePlaced (fs gs : List (Field N P)) : Type 0 where
    pub parts : List (Places P × Field N P)
    pub placed_so : fs ≡ all_placed parts
    pub were_so : gs ≡ as_they_were parts

  module _ (eq : N → N → Bool) where
    abbrev typed : (Sig N P → Option ℕ) → Field N P → Field N P
    typed taken f = with_types taken (field_place f) f

    pub expanded_placed : (xs : List (Places P × Field N P)) → ArePlaced (expanded eq (all_placed xs)) (expanded eq (as_they_were xs))
    expanded_placed xs =
        let taken = type_taken eq (as_they_were xs) in
        let us = implied eq (as_they_were xs) in
        let same = placed_spaces xs in
        let ys = map (under (typed taken)) xs in
        record {
          parts = ys ++ map implied_part us;
          placed_so =
              two (λ t vs. map (typed t) (all_placed xs) ++ map implied_field vs) (fun_ext (λ s. taken_same (all_placed xs) (as_they_were xs) same eq s)) (implied_same (all_placed xs) (as_they_were xs) same eq)
              ∙ two (λ a b. a ++ b) (placed_under (typed taken) (λ w f. changed_placed (λ p. record { outside = taking taken p; in_constant = λ before i. taking taken p; in_function = λ g before i. taking taken p }) (λ p q s r i. refl) w f) xs) (implied_placed us)
              ∙ sym (map-append (λ x. placed x.0 x.1) ys (map implied_part us));
          were_so = two (λ a b. a ++ b) (were_under (typed taken) xs) (implied_were us) ∙ sym (map-append (λ x. x.1) ys (map implied_part us));
        }

    numbered_parts : (s : Scope N P) (xs : List (Places P × Field N P)) → map (field_changed (numberings eq s)) (all_placed xs) ≡ all_placed (map (under (field_changed (numberings eq s))) xs)
    numbered_parts s xs = placed_under (field_changed (numberings eq s)) (λ w f. changed_placed (λ p. numberings eq s) (λ p q space r i. resolved_moved (s.spaces space) r i) w f) xs

    pub numbered_placed : (xs : List (Places P × Field N P)) → ArePlaced (numbered eq (all_placed xs)) (numbered eq (as_they_were xs))
    numbered_placed xs =
        let s = scope_of eq (as_they_were xs) in
        record {
          parts = map (under (field_changed (numberings eq s))) xs;
          placed_so = ap (λ t. map (field_changed (numberings eq t)) (all_placed xs)) (scope_same (all_placed xs) (as_they_were xs) (placed_spaces xs) eq) ∙ numbered_parts s xs;
          were_so = were_under (field_changed (numberings eq s)) xs;
        }

    -- with types and numbers
    pub resolved_placed : (xs : List (Places P × Field N P)) → ArePlaced (numbered eq (expanded eq (all_placed xs))) (numbered eq (expanded eq (as_they_were xs)))
    resolved_placed xs =
        let e = expanded_placed xs in
        let n = numbered_placed e.parts in
        record { parts = n.parts; placed_so = ap (numbered eq) e.placed_so ∙ n.placed_so; were_so = ap (numbered eq) e.were_so ∙ n.were_so }

-- THE MODULE
module _ {N P : Type 0} where
  heap_same : (r : P) (h : HeapType N P) → heap_meant (heap_at r h) ≡ heap_meant h
  heap_same r (Abstract shared w) = refl
  heap_same r (Concrete (ByNumber n q)) = refl
  heap_same r (Concrete (ByName id)) = refl
  heap_same r (Exact (ByNumber n q)) = refl
  heap_same r (Exact (ByName id)) = refl

  -- what is defined
  defined_each : {A : Type 0} (k : Defined N P → List A) → ((p : P) (t : TableType N P) → k (Table (table_at p t) None) ≡ k (Table t None)) → (xs : List (Places P × Field N P)) →
      flat_map k (flat_map defined_in (all_placed xs)) ≡ flat_map k (flat_map defined_in (as_they_were xs))
  defined_each k h [] = refl
  defined_each k h ((w, TypeField t) ∷ xs) = defined_each k h xs
  defined_each k h ((w, RecField r) ∷ xs) = defined_each k h xs
  defined_each k h ((w, ImportField i) ∷ xs) = defined_each k h xs
  defined_each k h ((w, Define d) ∷ xs) = two (λ a b. a ++ b) (by_defined k w.heap (h w.heap) d.defined) (defined_each k h xs)
  defined_each k h ((w, ExportField e) ∷ xs) = defined_each k h xs
  defined_each k h ((w, StartField s) ∷ xs) = defined_each k h xs
  defined_each k h ((w, ElemField e) ∷ xs) = defined_each k h xs
  defined_each k h ((w, DataField d) ∷ xs) = defined_each k h xs
  defined_each k h ((w, CustomField c) ∷ xs) = defined_each k h xs

  table_same : (p : P) (t : TableType N P) → tables_of (Table (table_at p t) None) ≡ tables_of (Table t None)
  table_same p t =
      ap (λ h. segments.WithoutInit (record { element_type = record { nullable = t.element.nullable; heap_type = h }; limits = limits_meant t.limits t.shared None }) ∷ []) (heap_same p t.element.heap_type)

  types_same : (w : Places P) (f : Field N P) → types_of (placed w f) ≡ types_of f
  types_same w f = by_field types_of w (λ i. refl) (λ d. refl) (λ e. refl) (λ e. refl) (λ d. refl) f

  import_same : (w : Places P) (from : List ℕ) (is : ImportItems N P) → import_of from (items_at w is) ≡ import_of from is
  import_same w from (Single name i) = refl
  import_same w from (Group1 is) = refl
  import_same w from (Group2 names i) = refl

  imports_same : (w : Places P) (f : Field N P) → imports_of (placed w f) ≡ imports_of f
  imports_same w f = by_field imports_of w (λ i. ap (λ x. x ∷ []) (import_same w i.from i.items)) (λ d. refl) (λ e. refl) (λ e. refl) (λ d. refl) f

  export_same : (place p : P) (name : List ℕ) (kind : exports.ExportKind) (r : P) (i : Reference N P) →
      exports_of (ExportField (record { place = place; name = name; kind = kind; item = referred_at r i })) ≡ exports_of (ExportField (record { place = p; name = name; kind = kind; item = i }))
  export_same place p name kind r (ByNumber n q) = refl
  export_same place p name kind r (ByName id) = refl

  exports_same : (w : Places P) (f : Field N P) → exports_of (placed w f) ≡ exports_of f
  exports_same w f = by_field exports_of w (λ i. refl) (λ d. refl) (λ e. export_same w.field e.place e.name e.kind w.reference e.item) (λ e. refl) (λ d. refl) f

  starts_same : (w : Places P) (f : Field N P) → starts_of (placed w f) ≡ starts_of f
  starts_same w f = by_field starts_of w (λ i. refl) (λ d. refl) (λ e. refl) (λ e. refl) (λ d. refl) f

  element_same : (r : P) (m : ElemMode N P) (es : Elements N P) → element_of (elem_mode_at r m) es ≡ element_of m es
  element_same r PassiveElem es = refl
  element_same r DeclaredElem es = refl
  element_same r (ActiveElem None offset) es = refl
  element_same r (ActiveElem (Some (ByNumber n q)) offset) (Indices is) = refl
  element_same r (ActiveElem (Some (ByNumber n q)) offset) (Expressions t es) = refl
  element_same r (ActiveElem (Some (ByName id)) offset) (Indices is) = refl
  element_same r (ActiveElem (Some (ByName id)) offset) (Expressions t es) = refl

  elements_same : (w : Places P) (f : Field N P) → elements_of (placed w f) ≡ elements_of f
  elements_same w f = by_field elements_of w (λ i. refl) (λ d. refl) (λ e. refl) (λ e. ap (λ x. x ∷ []) (element_same w.reference e.mode e.elements)) (λ d. refl) f

  data_same : (r : P) (m : DataMode N P) (bytes : List ℕ) → data_of (data_mode_at r m) bytes ≡ data_of m bytes
  data_same r PassiveData bytes = refl
  data_same r (ActiveData None offset) bytes = refl
  data_same r (ActiveData (Some (ByNumber n q)) offset) bytes = refl
  data_same r (ActiveData (Some (ByName id)) offset) bytes = refl

  datas_same : (w : Places P) (f : Field N P) → datas_of (placed w f) ≡ datas_of f
  datas_same w f = by_field datas_of w (λ i. refl) (λ d. refl) (λ e. refl) (λ e. refl) (λ d. ap (λ x. x ∷ []) (data_same w.reference d.mode (values_of d.values))) f

  import_bodies : (w : Places P) (is : ImportItems N P) → imported (items_at w is) ≡ imported is
  import_bodies w (Single name i) = refl
  import_bodies w (Group1 is) = refl
  import_bodies w (Group2 names i) = refl

  bodies_same : (w : Places P) (f : Field N P) → bodies_in (placed w f) ≡ bodies_in f
  bodies_same w f = by_field bodies_in w (λ i. ap (flat_map imported_function) (import_bodies w i.items)) (λ d. by_defined defined_function w.heap (λ t. refl) d.defined) (λ e. refl) (λ e. refl) (λ d. refl) f

  customs_same : (w : Places P) (f : Field N P) → customs_in (placed w f) ≡ customs_in f
  customs_same w f = by_field customs_in w (λ i. refl) (λ d. refl) (λ e. refl) (λ e. refl) (λ d. refl) f

  module _ (eq : N → N → Bool) (is_made : N → Bool) (name : Option (GivenName N)) where
    -- without names and custom sections
    abbrev stripped : List (Field N P) → AbstractModule (GivenName N)
    stripped fs = record (without_customs eq is_made name fs) { names = no_names }

    stripped_same : (xs : List (Places P × Field N P)) → stripped (all_placed xs) ≡ stripped (as_they_were xs)
    stripped_same xs =
        let types = same_each types_of types_same xs in
        let imports = same_each imports_of imports_same xs in
        let functions = defined_each functions_of (λ p t. refl) xs in
        let tables = defined_each tables_of table_same xs in
        let memories = defined_each memories_of (λ p t. refl) xs in
        let tags = defined_each tags_of (λ p t. refl) xs in
        let globals = defined_each globals_of (λ p t. refl) xs in
        let exported = same_each exports_of exports_same xs in
        let starts = same_each starts_of starts_same xs in
        let elements = same_each elements_of elements_same xs in
        let datas = same_each datas_of datas_same xs in
        let bodies = same_each bodies_in bodies_same xs in
        λ i. record {
          types = types i;
          imports = imports i;
          functions = functions i;
          tables = tables i;
          memories = memories i;
          tags = tags i;
          globals = globals i;
          exports = exported i;
          start = slice_get (starts i) 0;
          elements = elements i;
          datas = datas i;
          names = no_names;
          hints = hints_from 0 (bodies i);
          customs = [];
        }

    abbrev with_gaps : List (Custom P) → AbstractModule (GivenName N) → AbstractModule (GivenName N)
    with_gaps cs m = record m { customs = gaps_from (at_place cs) (there_with m false) stops }

    -- the module without names
    pub bare_same : (xs : List (Places P × Field N P)) → bare (meant eq is_made name (all_placed xs)) ≡ bare (meant eq is_made name (as_they_were xs))
    bare_same xs =
        bare_so eq is_made name (all_placed xs)
        ∙ two with_gaps (same_each customs_in customs_same xs) (stripped_same xs)
        ∙ sym (bare_so eq is_made name (as_they_were xs))
