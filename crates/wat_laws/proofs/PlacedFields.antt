-- Fields of which parts have places of their own say the same: names mean the same among them, and the same is demanded, formed and covered.
use Rattle.std.proofs.Common.{◌≡◌, ℕ, ◌+◌, Bool, true, false, List, [], ◌∷◌, ◌++◌, map, length, Option, Some, None, is_none, refl, sym, ◌∙◌, ap}
use Rattle.std.specs.Prelude.{◌&&◌, if◌then◌else◌, filter, filter_map, slice_get, option_map, option_and_then, codes}
use Rattle.std.specs.List.{flat_map, list_all, position_from}
use Rattle.std.proofs.Math.Path.{fun_ext}
use Rattle.std.proofs.lemmas.List.{length-map, map-append}
use Rattle.std.proofs.lemmas.Option.{none-some, slice_get-map}
use Rattle.std.proofs.lemmas.Simd.{map-map}
use Rattle.wasm_encoder_base.specs.Table.{Space, Labels, Locals, Functions, Types, Tables, Memories, Globals, Tags, Datas, Elems, Fields}
use Rattle.wast_parser.specs.Identifiers.{Named, Reference, ByNumber, ByName}
use Rattle.wast_names.specs.Walk.{walked, first_unmet}
use Rattle.wast_names.specs.Demand.{Complaint, Duplicate, Demand, is_met}
use Rattle.wast_names.specs.Space as names
use Rattle.wast_names.specs.Space.{name_in, denoted, last_counts}
use Rattle.wast_value_types.specs.ValueTree.{HeapType, Abstract, Concrete, Exact, TableType}
use Rattle.wast_signatures.specs.TypeTree.{Sig}
use Rattle.wast_exports.specs.Exports as exports
use Rattle.wast_imports.specs.ImportTree.{Imports, ImportItems, Single, Group1, Group2}
use Rattle.wast_field_syntax.specs.FieldTree.{Defined, Imported, Func, Table, TableOf, Memory, MemoryOf, Global, Tag, Definition, Elem, Data, Elements, ElemMode, PassiveElem, DeclaredElem, ActiveElem, DataMode, PassiveData, ActiveData, Field, TypeField, RecField, ImportField, Define, ExportField, StartField, ElemField, DataField, CustomField, field_place}
use Rattle.wast_meaning.specs.Written.{space_of_kind, kind_of_type, kind_of}
use Rattle.wast_meaning.specs.Mentions.{Part, Says, Refers, part_mentions, says, heap_mentions, import_mentions, elem_mode_parts, data_mode_parts, elements_parts}
use Rattle.wast_meaning.specs.Spaces.{Bound, same_space, space_word, bound_segment, items, items_in, ids_in, fields_at, denotes, listed}
use Rattle.wast_meaning.specs.Implied.{same_option, same_sig, same_written, sig_of_mention, used_sigs, written_types, plain_sig, implied_by, implied, sig_at, type_taken, type_count}
use Rattle.wast_meaning.specs.Scope.{Scope, space_count, index_space, scope_of}
use Rattle.wast_meaning.specs.Demands.{nearest, order_demand, order_demands, item_demand, spaces_after, item_demands, part_demands, field_demands, demands}
use Rattle.wast_meaning.proofs.Settled.{two}
use Rattle.wast_resolve_laws.proofs.Sigs.{sig_of_type, implied_sig}
use Rattle.wast_resolve_laws.proofs.Unmet.{all_met, none_unmet}
use Rattle.wast_conversions.specs.Covered.{Form, heap_forms, form_if}
use Rattle.wast_meant.specs.Covered.{data_forms, elements_forms, defined_forms, import_forms, elem_mode_forms, data_mode_forms, field_forms, first_of, first_form}
use Rattle.wat_laws.specs.Written.{Places, named_at, referred_at, heap_at, table_at, defined_at, items_at, elem_mode_at, data_mode_at, placed, as_they_were, all_placed}

-- an item, by its space, its name and the names of its fields
abbrev pub Unplaced : Type 0 → Type 0 → Type 0
Unplaced N P = Space × (Option N × List (Option (Named N P)))

-- what is demanded where an item joins its space, and whether it holds
abbrev own_demands : {N : Type 0} → List ℕ → names.Space N → Option N → List (Complaint N × Bool)
own_demands kind s None = []
own_demands kind s (Some n) = if last_counts kind then [] else (Duplicate kind, is_none (s.look n)) ∷ []

-- a form, wherever it stands
abbrev form_alone : {P : Type 0} → Option (P × Form) → Option Form
form_alone o = option_map (λ x. x.1) o

first_same : {P : Type 0} (p q : P) (forms : List Form) (o u : Option (P × Form)) → form_alone o ≡ form_alone u → form_alone (first_of p forms o) ≡ form_alone (first_of q forms u)
first_same p q [] o u e = e
first_same p q (form ∷ forms) o u e = refl

none_formed : {P : Type 0} (o u : Option (P × Form)) → form_alone o ≡ form_alone u → u ≡ None → o ≡ None
none_formed None u e h = refl
none_formed (Some x) u e h = elim (none-some x.1 (sym (e ∙ ap form_alone h))) [ ]

module _ {N P : Type 0} where
  -- WHAT IS DEFINED: a table without values alone has another place in it
  pub by_defined : {A : Type 0} (k : Defined N P → A) (p : P) → ((t : TableType N P) → k (Table (table_at p t) None) ≡ k (Table t None)) → (d : Defined N P) → k (defined_at p d) ≡ k d
  by_defined k p h (Imported from name t) = refl
  by_defined k p h (Func f) = refl
  by_defined k p h (Table t None) = h t
  by_defined k p h (Table t (Some e)) = refl
  by_defined k p h (TableOf wide t es) = refl
  by_defined k p h (Memory t) = refl
  by_defined k p h (MemoryOf wide page vs) = refl
  by_defined k p h (Global t init) = refl
  by_defined k p h (Tag u) = refl

  -- EACH FIELD: imports, definitions, exports and segments alone have other places in them
  pub by_field : {A : Type 0} (k : Field N P → A) (w : Places P)
      → ((i : Imports N P) → k (placed w (ImportField i)) ≡ k (ImportField i)) → ((d : Definition N P) → k (placed w (Define d)) ≡ k (Define d))
      → ((e : exports.Export N P) → k (placed w (ExportField e)) ≡ k (ExportField e)) → ((e : Elem N P) → k (placed w (ElemField e)) ≡ k (ElemField e))
      → ((d : Data N P) → k (placed w (DataField d)) ≡ k (DataField d)) → (f : Field N P) → k (placed w f) ≡ k f
  by_field k w imported defined exported elements datas (TypeField t) = refl
  by_field k w imported defined exported elements datas (RecField r) = refl
  by_field k w imported defined exported elements datas (ImportField i) = imported i
  by_field k w imported defined exported elements datas (Define d) = defined d
  by_field k w imported defined exported elements datas (ExportField e) = exported e
  by_field k w imported defined exported elements datas (StartField s) = refl
  by_field k w imported defined exported elements datas (ElemField e) = elements e
  by_field k w imported defined exported elements datas (DataField d) = datas d
  by_field k w imported defined exported elements datas (CustomField c) = refl

  pub same_each : {A : Type 0} (h : Field N P → List A) → ((w : Places P) (f : Field N P) → h (placed w f) ≡ h f) → (xs : List (Places P × Field N P)) → flat_map h (all_placed xs) ≡ flat_map h (as_they_were xs)
  same_each h same [] = refl
  same_each h same (x ∷ xs) = two (λ a b. a ++ b) (same x.0 x.1) (same_each h same xs)

  pub import_at : (w : Places P) (is : ImportItems N P) → import_mentions (items_at w is) ≡ import_mentions is
  import_at w (Single name i) = refl
  import_at w (Group1 is) = refl
  import_at w (Group2 names i) = refl

  -- TYPES and uses of them
  types_at : (w : Places P) (f : Field N P) → written_types (placed w f) ≡ written_types f
  types_at w f = by_field written_types w (λ i. refl) (λ d. refl) (λ e. refl) (λ e. refl) (λ d. refl) f

  abbrev uses_of : P → List (Part N P) → List (P × Sig N P)
  uses_of p xs = map (λ s. (p, s)) (flat_map sig_of_mention (flat_map part_mentions xs))

  heap_unused : (p : P) (h : HeapType N P) → uses_of p (says (heap_mentions h) ++ []) ≡ []
  heap_unused p (Abstract shared x) = refl
  heap_unused p (Concrete i) = refl
  heap_unused p (Exact i) = refl

  elem_uses : (p q : P) (m : ElemMode N P) (es : Elements N P) → uses_of p (elem_mode_parts (elem_mode_at q m) ++ elements_parts es) ≡ uses_of p (elem_mode_parts m ++ elements_parts es)
  elem_uses p q PassiveElem es = refl
  elem_uses p q DeclaredElem es = refl
  elem_uses p q (ActiveElem None offset) es = refl
  elem_uses p q (ActiveElem (Some i) offset) es = refl

  data_uses : (p q : P) (m : DataMode N P) → uses_of p (data_mode_parts (data_mode_at q m)) ≡ uses_of p (data_mode_parts m)
  data_uses p q PassiveData = refl
  data_uses p q (ActiveData None offset) = refl
  data_uses p q (ActiveData (Some i) offset) = refl

  define_uses : (w : Places P) (p : P) (id : Option (Named N P)) (given : Option (List ℕ)) (es : List (List ℕ)) (d : Defined N P) →
      used_sigs (placed w (Define (record { place = p; id = id; given = given; exports = es; defined = d }))) ≡ used_sigs (Define (record { place = p; id = id; given = given; exports = es; defined = d }))
  define_uses w p id given es (Imported from name t) = refl
  define_uses w p id given es (Func f) = refl
  define_uses w p id given es (Table t None) = heap_unused w.field (heap_at w.heap t.element.heap_type) ∙ sym (heap_unused p t.element.heap_type)
  define_uses w p id given es (Table t (Some e)) = refl
  define_uses w p id given es (TableOf wide t xs) = refl
  define_uses w p id given es (Memory t) = refl
  define_uses w p id given es (MemoryOf wide page vs) = refl
  define_uses w p id given es (Global t init) = refl
  define_uses w p id given es (Tag u) = refl

  uses_at : (w : Places P) (f : Field N P) → used_sigs (placed w f) ≡ used_sigs f
  uses_at w f =
      by_field used_sigs w
      (λ i. ap (λ ms. uses_of i.place (says ms)) (import_at w i.items))
      (λ d. define_uses w d.place d.id d.given d.exports d.defined)
      (λ e. refl)
      (λ e. elem_uses e.place w.reference e.mode e.elements)
      (λ d. data_uses d.place w.reference d.mode) f

  -- ITEMS, by space, name and the names of fields
  abbrev pub unplaced : Bound N P → Unplaced N P
  unplaced b = (b.space, (name_in b.id, b.fields))

  name_at : (p : P) (id : Option (Named N P)) → name_in (option_map (named_at p) id) ≡ name_in id
  name_at p None = refl
  name_at p (Some id) = refl

  abbrev item_of : Space → List (Bound N P) → Option N → List (Unplaced N P)
  item_of s bs n = (s, (n, [])) ∷ map unplaced bs

  kind_at : (p : P) (d : Defined N P) → kind_of (defined_at p d) ≡ kind_of d
  kind_at p d = by_defined kind_of p (λ t. refl) d

  segment_at : (p : P) (d : Defined N P) → bound_segment (defined_at p d) ≡ bound_segment d
  segment_at p d = by_defined bound_segment p (λ t. refl) d

  import_items : (w : Places P) (place : P) (from : List ℕ) (is : ImportItems N P) → map unplaced (items (placed w (ImportField (record { place = place; from = from; items = is })))) ≡ map unplaced (items (ImportField (record { place = place; from = from; items = is })))
  import_items w place from (Single name i) = ap (λ n. item_of (space_of_kind (kind_of_type i.extern_type)) [] n) (name_at w.name i.id)
  import_items w place from (Group1 is) = refl
  import_items w place from (Group2 names i) = refl

  items_same : (w : Places P) (f : Field N P) → map unplaced (items (placed w f)) ≡ map unplaced (items f)
  items_same w f =
      by_field (λ x. map unplaced (items x)) w
      (λ i. import_items w i.place i.from i.items)
      (λ d. ap (λ k. item_of (space_of_kind k) (bound_segment (defined_at w.heap d.defined)) (name_in (option_map (named_at w.name) d.id))) (kind_at w.heap d.defined)
      ∙ two (λ bs n. item_of (space_of_kind (kind_of d.defined)) bs n) (segment_at w.heap d.defined) (name_at w.name d.id))
      (λ e. refl)
      (λ e. refl)
      (λ d. refl)
      f

  pub bounds_same : (xs : List (Places P × Field N P)) → map unplaced (flat_map items (all_placed xs)) ≡ map unplaced (flat_map items (as_they_were xs))
  bounds_same [] = refl
  bounds_same (x ∷ xs) =
      map-append unplaced (items (placed x.0 x.1)) (flat_map items (all_placed xs))
      ∙ two (λ a b. a ++ b) (items_same x.0 x.1) (bounds_same xs)
      ∙ sym (map-append unplaced (items x.1) (flat_map items (as_they_were xs)))

  -- those of a space
  of_space : (s : Space) (bs : List (Bound N P)) → map unplaced (filter (λ b. same_space s b.space) bs) ≡ filter (λ z. same_space s z.0) (map unplaced bs)
  of_space s [] = refl
  of_space s (b ∷ bs) = by_case (same_space s b.space) (of_space s bs)
    where
      by_case : (c : Bool) → map unplaced (filter (λ b. same_space s b.space) bs) ≡ filter (λ z. same_space s z.0) (map unplaced bs) →
          map unplaced (if c then b ∷ filter (λ b. same_space s b.space) bs else filter (λ b. same_space s b.space) bs) ≡ (if c then unplaced b ∷ filter (λ z. same_space s z.0) (map unplaced bs) else filter (λ z. same_space s z.0) (map unplaced bs))
      by_case true rest = ap (λ l. unplaced b ∷ l) rest
      by_case false rest = rest

  -- FIELDS WITH THE SAME TYPES, USES AND ITEMS
  pub record SameSpaces (fs gs : List (Field N P)) : Type 0 where
    pub types : flat_map written_types fs ≡ flat_map written_types gs
    pub uses : flat_map used_sigs fs ≡ flat_map used_sigs gs
    pub bounds : map unplaced (flat_map items fs) ≡ map unplaced (flat_map items gs)

  pub placed_spaces : (xs : List (Places P × Field N P)) → SameSpaces (all_placed xs) (as_they_were xs)
  placed_spaces xs = record { types = same_each written_types types_at xs; uses = same_each used_sigs uses_at xs; bounds = bounds_same xs }

  module _ (fs gs : List (Field N P)) (same : SameSpaces fs gs) where
    items_of_space : (s : Space) → map unplaced (items_in s fs) ≡ map unplaced (items_in s gs)
    items_of_space s = of_space s (flat_map items fs) ∙ ap (λ zs. filter (λ z. same_space s z.0) zs) same.bounds ∙ sym (of_space s (flat_map items gs))

    count_same : (s : Space) → length (items_in s fs) ≡ length (items_in s gs)
    count_same s = sym (length-map (items_in s fs) unplaced) ∙ ap length (items_of_space s) ∙ length-map (items_in s gs) unplaced

    abbrev name_of : Unplaced N P → Option N
    name_of z = z.1.0

    names_so : (s : Space) (hs : List (Field N P)) → map name_in (ids_in s hs) ≡ map name_of (map unplaced (items_in s hs))
    names_so s hs = map-map name_in (λ b. b.id) (items_in s hs) ∙ sym (map-map name_of unplaced (items_in s hs))

    names_same : (s : Space) → map name_in (ids_in s fs) ≡ map name_in (ids_in s gs)
    names_same s = names_so s fs ∙ ap (λ zs. map name_of zs) (items_of_space s) ∙ sym (names_so s gs)

    abbrev fields_in : Option (Unplaced N P) → List (Option (Named N P))
    fields_in None = []
    fields_in (Some z) = z.1.1

    found_in : (o : Option (Bound N P)) → (elim o [ Some b ↦ b.fields | None ↦ [] ]) ≡ fields_in (option_map unplaced o)
    found_in None = refl
    found_in (Some b) = refl

    fields_so : (t : ℕ) (hs : List (Field N P)) → fields_at hs t ≡ fields_in (slice_get (map unplaced (items_in Types hs)) t)
    fields_so t hs = found_in (slice_get (items_in Types hs) t) ∙ ap fields_in (sym (slice_get-map unplaced (items_in Types hs) t))

    fields_same : (t : ℕ) → fields_at fs t ≡ fields_at gs t
    fields_same t = fields_so t fs ∙ ap (λ zs. fields_in (slice_get zs t)) (items_of_space Types) ∙ sym (fields_so t gs)

    module _ (eq : N → N → Bool) where
      pub implied_same : implied eq fs ≡ implied eq gs
      implied_same = two (λ ts us. implied_by eq (filter_map plain_sig ts) us) same.types same.uses

      sig_same : (n : ℕ) → sig_at eq fs n ≡ sig_at eq gs n
      sig_same n = two (λ ts us. option_and_then (λ s. s) (slice_get (map sig_of_type ts ++ map implied_sig us) n)) same.types implied_same

      pub taken_same : (s : Sig N P) → type_taken eq fs s ≡ type_taken eq gs s
      taken_same s = two (λ ts us. position_from (same_option (same_sig (same_written eq)) (Some s)) 0 (map plain_sig ts ++ map implied_sig us)) same.types implied_same

      types_counted : type_count eq fs ≡ type_count eq gs
      types_counted = two (λ ts us. length ts + length us) same.types implied_same

      counted : (s : Space) → space_count eq fs s ≡ space_count eq gs s
      counted Types = types_counted
      counted Labels = count_same Labels
      counted Locals = count_same Locals
      counted Functions = count_same Functions
      counted Tables = count_same Tables
      counted Memories = count_same Memories
      counted Globals = count_same Globals
      counted Tags = count_same Tags
      counted Datas = count_same Datas
      counted Elems = count_same Elems
      counted Fields = count_same Fields

      named_same : (s : Space) (n : N) → denoted eq (space_word s) n (map name_in (ids_in s fs)) ≡ denoted eq (space_word s) n (map name_in (ids_in s gs))
      named_same s n = ap (λ ns. denoted eq (space_word s) n ns) (names_same s)

      looked : (s : Space) (n : N) → denotes eq fs s n ≡ denotes eq gs s n
      looked Labels n = refl
      looked Locals n = refl
      looked Fields n = refl
      looked Types n = named_same Types n
      looked Functions n = named_same Functions n
      looked Tables n = named_same Tables n
      looked Memories n = named_same Memories n
      looked Globals n = named_same Globals n
      looked Tags n = named_same Tags n
      looked Datas n = named_same Datas n
      looked Elems n = named_same Elems n

      pub scope_same : scope_of eq fs ≡ scope_of eq gs
      scope_same =
          let spaces : index_space eq fs ≡ index_space eq gs = fun_ext (λ s. two (λ c l. record { count = c; look = l }) (counted s) (fun_ext (λ n. looked s n))) in
          let fields : (λ t. listed eq (fields_at fs t)) ≡ (λ t. listed eq (fields_at gs t)) = fun_ext (λ t. ap (λ ids. listed eq ids) (fields_same t)) in
          let sigs : sig_at eq fs ≡ sig_at eq gs = fun_ext (λ n. sig_same n) in
          λ i. record { spaces = spaces i; fields = fields i; sig_of = sigs i; blocks = [] }

  -- DEMANDS, by what is complained of and whether they hold
  abbrev pub unplaced_demand : Demand N P → Complaint N × Bool
  unplaced_demand d = (d.complaint, d.holds)

  holding : (ds : List (Demand N P)) → list_all is_met ds ≡ list_all (λ z. z.1) (map unplaced_demand ds)
  holding [] = refl
  holding (d ∷ ds) = ap (λ b. d.holds && b) (holding ds)

  pub none_too : (ds es : List (Demand N P)) → map unplaced_demand ds ≡ map unplaced_demand es → first_unmet is_met es ≡ None → first_unmet is_met ds ≡ None
  none_too ds es same none = none_unmet ds (holding ds ∙ ap (list_all (λ z. z.1)) same ∙ sym (holding es) ∙ all_met es none)

  -- the order of imports
  define_order : (w : Places P) (before : Option Space) (p : P) (id : Option (Named N P)) (given : Option (List ℕ)) (es : List (List ℕ)) (d : Defined N P) →
      order_demand before (placed w (Define (record { place = p; id = id; given = given; exports = es; defined = d }))) ≡ order_demand before (Define (record { place = p; id = id; given = given; exports = es; defined = d }))
  define_order w before p id given es (Imported from name t) = refl
  define_order w before p id given es (Func f) = refl
  define_order w before p id given es (Table t None) = refl
  define_order w before p id given es (Table t (Some e)) = refl
  define_order w before p id given es (TableOf wide t xs) = refl
  define_order w before p id given es (Memory t) = refl
  define_order w before p id given es (MemoryOf wide page vs) = refl
  define_order w before p id given es (Global t init) = refl
  define_order w before p id given es (Tag u) = refl

  order_at : (w : Places P) (before : Option Space) (f : Field N P) → order_demand before (placed w f) ≡ order_demand before f
  order_at w before f = by_field (order_demand before) w (λ i. refl) (λ d. define_order w before d.place d.id d.given d.exports d.defined) (λ e. refl) (λ e. refl) (λ d. refl) f

  nearest_at : (w : Places P) (before : Option Space) (f : Field N P) → nearest before (placed w f) ≡ nearest before f
  nearest_at w before f = by_field (nearest before) w (λ i. refl) (λ d. by_defined (λ x. nearest before (Define (record d { defined = x }))) w.heap (λ t. refl) d.defined) (λ e. refl) (λ e. refl) (λ d. refl) f

  orders_same : (before : Option Space) (xs : List (Places P × Field N P)) → walked order_demand nearest before (all_placed xs) ≡ walked order_demand nearest before (as_they_were xs)
  orders_same before [] = refl
  orders_same before (x ∷ xs) =
      two (λ a b. a ++ b) (order_at x.0 before x.1)
      (ap (λ b. walked order_demand nearest b (all_placed xs)) (nearest_at x.0 before x.1) ∙ orders_same (nearest before x.1) xs)

  module _ (eq : N → N → Bool) where
    -- items
    abbrev bound_demands : (Space → names.Space N) → Unplaced N P → List (Complaint N × Bool)
    bound_demands spaces z = own_demands (space_word z.0) (spaces z.0) z.1.0 ++ map unplaced_demand (names.distinct eq (space_word Fields) z.1.1)

    abbrev bound_after : (Space → names.Space N) → Unplaced N P → Space → names.Space N
    bound_after spaces z s = if same_space s z.0 then names.registered eq (space_word s) (spaces s) z.1.0 else spaces s

    fresh_so : (kind : List ℕ) (s : names.Space N) (id : Option (Named N P)) → map unplaced_demand (names.fresh kind s id) ≡ own_demands kind s (name_in id)
    fresh_so kind s None = by_case (last_counts kind)
      where
        by_case : (b : Bool) → map unplaced_demand (if b then [] else names.fresh_item kind s None) ≡ []
        by_case true = refl
        by_case false = refl
    fresh_so kind s (Some id) = by_case (last_counts kind)
      where
        by_case : (b : Bool) → map unplaced_demand (if b then [] else names.fresh_item kind s (Some id)) ≡ (if b then [] else (Duplicate kind, is_none (s.look id.0)) ∷ [])
        by_case true = refl
        by_case false = refl

    items_walked : (spaces : Space → names.Space N) (bs : List (Bound N P)) → map unplaced_demand (walked (item_demand eq) (spaces_after eq) spaces bs) ≡ walked bound_demands bound_after spaces (map unplaced bs)
    items_walked spaces [] = refl
    items_walked spaces (b ∷ bs) =
        map-append unplaced_demand (item_demand eq spaces b) (walked (item_demand eq) (spaces_after eq) (spaces_after eq spaces b) bs)
        ∙ two (λ a c. a ++ c)
        (map-append unplaced_demand (names.fresh (space_word b.space) (spaces b.space) b.id) (names.distinct eq (space_word Fields) b.fields)
        ∙ ap (λ l. l ++ map unplaced_demand (names.distinct eq (space_word Fields) b.fields)) (fresh_so (space_word b.space) (spaces b.space) b.id))
        (items_walked (spaces_after eq spaces b) bs)

    items_demanded : (xs : List (Places P × Field N P)) → map unplaced_demand (item_demands eq (flat_map items (all_placed xs))) ≡ map unplaced_demand (item_demands eq (flat_map items (as_they_were xs)))
    items_demanded xs =
        items_walked (λ s. names.empty) (flat_map items (all_placed xs))
        ∙ ap (walked bound_demands bound_after (λ s. names.empty)) (bounds_same xs)
        ∙ sym (items_walked (λ s. names.empty) (flat_map items (as_they_were xs)))

    -- parts
    module _ (s : Scope N P) where
      abbrev of_parts : List (Part N P) → List (Complaint N × Bool)
      of_parts xs = map unplaced_demand (flat_map (part_demands eq s) xs)

      heap_said : (p : P) (h : HeapType N P) → of_parts (says (heap_mentions (heap_at p h)) ++ []) ≡ of_parts (says (heap_mentions h) ++ [])
      heap_said p (Abstract shared x) = refl
      heap_said p (Concrete (ByNumber n q)) = refl
      heap_said p (Concrete (ByName id)) = refl
      heap_said p (Exact (ByNumber n q)) = refl
      heap_said p (Exact (ByName id)) = refl

      index_said : (space : Space) (p : P) (i : Reference N P) → of_parts (Says (Refers space (referred_at p i)) ∷ []) ≡ of_parts (Says (Refers space i) ∷ [])
      index_said space p (ByNumber n q) = refl
      index_said space p (ByName id) = refl

      elem_said : (p : P) (m : ElemMode N P) (es : Elements N P) → of_parts (elem_mode_parts (elem_mode_at p m) ++ elements_parts es) ≡ of_parts (elem_mode_parts m ++ elements_parts es)
      elem_said p PassiveElem es = refl
      elem_said p DeclaredElem es = refl
      elem_said p (ActiveElem None offset) es = refl
      elem_said p (ActiveElem (Some (ByNumber n q)) offset) es = refl
      elem_said p (ActiveElem (Some (ByName id)) offset) es = refl

      data_said : (p : P) (m : DataMode N P) → of_parts (data_mode_parts (data_mode_at p m)) ≡ of_parts (data_mode_parts m)
      data_said p PassiveData = refl
      data_said p (ActiveData None offset) = refl
      data_said p (ActiveData (Some (ByNumber n q)) offset) = refl
      data_said p (ActiveData (Some (ByName id)) offset) = refl

      field_said : (w : Places P) (f : Field N P) → map unplaced_demand (field_demands eq s (placed w f)) ≡ map unplaced_demand (field_demands eq s f)
      field_said w f =
          by_field (λ x. map unplaced_demand (field_demands eq s x)) w
          (λ i. ap (λ ms. of_parts (says ms)) (import_at w i.items))
          (λ d. by_defined (λ x. map unplaced_demand (field_demands eq s (Define (record d { defined = x })))) w.heap (λ t. heap_said w.heap t.element.heap_type) d.defined)
          (λ e. index_said (space_of_kind e.kind) w.reference e.item)
          (λ e. elem_said w.reference e.mode e.elements)
          (λ d. data_said w.reference d.mode) f

      fields_said : (xs : List (Places P × Field N P)) → map unplaced_demand (flat_map (field_demands eq s) (all_placed xs)) ≡ map unplaced_demand (flat_map (field_demands eq s) (as_they_were xs))
      fields_said [] = refl
      fields_said (x ∷ xs) =
          map-append unplaced_demand (field_demands eq s (placed x.0 x.1)) (flat_map (field_demands eq s) (all_placed xs))
          ∙ two (λ a b. a ++ b) (field_said x.0 x.1) (fields_said xs)
          ∙ sym (map-append unplaced_demand (field_demands eq s x.1) (flat_map (field_demands eq s) (as_they_were xs)))

    -- all
    abbrev of_fields : List (Field N P) → List (Demand N P)
    of_fields fs = flat_map (field_demands eq (scope_of eq fs)) fs

    in_order : (fs : List (Field N P)) → map unplaced_demand (demands eq fs) ≡ (map unplaced_demand (order_demands fs) ++ map unplaced_demand (item_demands eq (flat_map items fs))) ++ map unplaced_demand (of_fields fs)
    in_order fs =
        map-append unplaced_demand (order_demands fs ++ item_demands eq (flat_map items fs)) (of_fields fs)
        ∙ ap (λ l. l ++ map unplaced_demand (of_fields fs)) (map-append unplaced_demand (order_demands fs) (item_demands eq (flat_map items fs)))

    pub demands_same : (xs : List (Places P × Field N P)) → map unplaced_demand (demands eq (all_placed xs)) ≡ map unplaced_demand (demands eq (as_they_were xs))
    demands_same xs =
        in_order (all_placed xs)
        ∙ two (λ a b. a ++ b) (two (λ a b. a ++ b) (ap (λ ds. map unplaced_demand ds) (orders_same None xs)) (items_demanded xs))
        (ap (λ s. map unplaced_demand (flat_map (field_demands eq s) (all_placed xs))) (scope_same (all_placed xs) (as_they_were xs) (placed_spaces xs) eq)
        ∙ fields_said (scope_of eq (as_they_were xs)) xs)
        ∙ sym (in_order (as_they_were xs))

  -- FORMS
  heap_formed : (p : P) (h : HeapType N P) → heap_forms (heap_at p h) ≡ heap_forms h
  heap_formed p (Abstract shared x) = refl
  heap_formed p (Concrete i) = refl
  heap_formed p (Exact i) = refl

  import_formed : (w : Places P) (is : ImportItems N P) → import_forms (items_at w is) ≡ import_forms is
  import_formed w (Single name i) = refl
  import_formed w (Group1 is) = refl
  import_formed w (Group2 names i) = refl

  elem_formed : (p : P) (m : ElemMode N P) → elem_mode_forms (elem_mode_at p m) ≡ elem_mode_forms m
  elem_formed p PassiveElem = refl
  elem_formed p DeclaredElem = refl
  elem_formed p (ActiveElem table offset) = refl

  data_formed : (p : P) (m : DataMode N P) → data_mode_forms (data_mode_at p m) ≡ data_mode_forms m
  data_formed p PassiveData = refl
  data_formed p (ActiveData memory offset) = refl

  forms_at : (w : Places P) (f : Field N P) → field_forms (placed w f) ≡ field_forms f
  forms_at w f =
      by_field field_forms w
      (λ i. import_formed w i.items)
      (λ d. by_defined defined_forms w.heap (λ t. ap (λ l. (form_if t.shared (codes "shared type") ++ l) ++ []) (heap_formed w.heap t.element.heap_type)) d.defined)
      (λ e. refl)
      (λ e. ap (λ l. l ++ elements_forms e.elements) (elem_formed w.reference e.mode))
      (λ d. ap (λ l. l ++ flat_map data_forms d.values) (data_formed w.reference d.mode)) f

  forms_same : (xs : List (Places P × Field N P)) → form_alone (first_form (all_placed xs)) ≡ form_alone (first_form (as_they_were xs))
  forms_same [] = refl
  forms_same (x ∷ xs) =
      ap (λ forms. form_alone (first_of (field_place (placed x.0 x.1)) forms (first_form (all_placed xs)))) (forms_at x.0 x.1)
      ∙ first_same (field_place (placed x.0 x.1)) (field_place x.1) (field_forms x.1) (first_form (all_placed xs)) (first_form (as_they_were xs)) (forms_same xs)

  -- where none of a field's forms is uncovered, none is of the other's
  pub covered_too : (xs : List (Places P × Field N P)) → first_form (as_they_were xs) ≡ None → first_form (all_placed xs) ≡ None
  covered_too xs h = none_formed (first_form (all_placed xs)) (first_form (as_they_were xs)) (forms_same xs) h

  pub covered_back : (xs : List (Places P × Field N P)) → first_form (all_placed xs) ≡ None → first_form (as_they_were xs) ≡ None
  covered_back xs h = none_formed (first_form (as_they_were xs)) (first_form (all_placed xs)) (sym (forms_same xs)) h
