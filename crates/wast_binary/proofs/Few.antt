-- Where there is little in fields, the numbers in their name maps and hints have 32 bits.
use Rattle.std.proofs.Common.{◌≡◌, ℕ, suc, ◌+◌, ◌≤◌, Bool, true, false, cond, List, [], ◌∷◌, map, length, All, Option, Some, None, refl, arith}
use Rattle.std.specs.Prelude.{filter}
use Rattle.std.specs.List.{flat_map}
use Rattle.std.proofs.lemmas.List.{length-map, length-append}
use Rattle.std.proofs.lemmas.List.Elements.{All-nil, All-cons, All-head, All-tail, All-append}
use Rattle.wasm_encoder_base.specs.Table as text
use Rattle.wasm_encoder_base.specs.Table.{Space}
use Rattle.wast_signatures.specs.TypeTree.{InnerType, FuncType, StructType, ArrayType, ContType, TypeItem}
use Rattle.wast_imports.specs.ImportTree.{ExternType, OfFunc, OfExactFunc, OfTable, OfMemory, OfGlobal, OfTag, Item, ImportItems, Single, Group1, Group2}
use Rattle.wast_module_fields.specs.FieldTree.{Function, Defined, Imported, Func, Table, TableOf, Memory, MemoryOf, Global, Tag, Field, TypeField, RecField, ImportField, Define, ExportField, StartField, ElemField, DataField, CustomField}
use Rattle.wast_meaning.specs.Implied.{written_types}
use Rattle.wast_meaning.specs.Spaces.{Bound, bound, fields_of, bound_type, bound_import, bound_imports, bound_segment, same_space, items, items_in}
use Rattle.wast_meant.specs.NamesMeant.{imported, imported_function, defined_function, bodies_in, imported_tag, defined_tag, tags_in}
use Rattle.wast_binary.specs.Weight.{total, inner_weight, type_weight, use_weight, extern_weight, import_weight, defined_weight, weight}

-- LISTS: parts of each element weigh no more than it does
module _ {F X : Type 0} (w : F → ℕ) (part : F → List X) where
  pub count_below : ((f : F) → length (part f) ≤ w f) → (fs : List F) → length (flat_map part fs) ≤ total w fs
  count_below so [] = omega arith
  count_below so (f ∷ fs) = omega (arith, length-append (part f) (flat_map part fs), so f, count_below so fs)

module _ {X : Type 0} (size : X → ℕ) where
  abbrev pub Below : ℕ → X → Type 0
  Below n x = size x ≤ n

  pub raised : (m n : ℕ) → m ≤ n → (xs : List X) → All (Below m) xs → All (Below n) xs
  raised m n l [] h = All-nil (Below n)
  raised m n l (x ∷ xs) h = All-cons (Below n) x xs (omega (arith, l, All-head (Below m) x xs h)) (raised m n l xs (All-tail (Below m) x xs h))

  pub each_below : {F : Type 0} (w : F → ℕ) (part : F → List X) → ((f : F) → All (Below (w f)) (part f)) → (fs : List F) → All (Below (total w fs)) (flat_map part fs)
  each_below w part so [] = All-nil (Below 0)
  each_below w part so (f ∷ fs) =
      let all = w f + total w fs in
      All-append (Below all) (part f) (flat_map part fs)
      (raised (w f) all (omega arith) (part f) (so f))
      (raised (total w fs) all (omega arith) (flat_map part fs) (each_below w part so fs))

  pub one_below : (n : ℕ) (x : X) → size x ≤ n → All (Below n) (x ∷ [])
  one_below n x l = All-cons (Below n) x [] l (All-nil (Below n))

  pub none_below : (n : ℕ) → All (Below n) []
  none_below n = All-nil (Below n)

few_if : {X : Type 0} (b : Bool) (x : X) (left xs : List X) → length left ≤ length xs → length (cond b (x ∷ left) left) ≤ suc (length xs)
few_if true x left xs l = omega (arith, l)
few_if false x left xs l = omega (arith, l)

few_left : {X : Type 0} (p : X → Bool) (xs : List X) → length (filter p xs) ≤ length xs
few_left p [] = omega arith
few_left p (x ∷ xs) = few_if (p x) x (filter p xs) xs (few_left p xs)

below_if : {X : Type 0} (size : X → ℕ) (n : ℕ) (b : Bool) (x : X) (left : List X) → size x ≤ n → All (Below size n) left → All (Below size n) (cond b (x ∷ left) left)
below_if size n true x left l h = All-cons (Below size n) x left l h
below_if size n false x left l h = h

left_below : {X : Type 0} (size : X → ℕ) (p : X → Bool) (n : ℕ) (xs : List X) → All (Below size n) xs → All (Below size n) (filter p xs)
left_below size p n [] h = h
left_below size p n (x ∷ xs) h = below_if size n (p x) x (filter p xs) (All-head (Below size n) x xs h) (left_below size p n xs (All-tail (Below size n) x xs h))

module _ {N P : Type 0} where
  -- ITEMS, by their fields
  rec_count : (ts : List (TypeItem N P)) → length ts ≤ total type_weight ts
  rec_count [] = omega arith
  rec_count (t ∷ ts) = omega (arith, rec_count ts)

  group_count : (is : List (List ℕ × Item N P)) → length is ≤ total (λ i. extern_weight i.1.extern_type + 1) is
  group_count [] = omega arith
  group_count (i ∷ is) = omega (arith, group_count is)

  imports_count : (i : ImportItems N P) → length (bound_imports i) ≤ import_weight i
  imports_count (Single name i) = omega arith
  imports_count (Group1 is) = omega (arith, length-map is (λ (i : List ℕ × Item N P). bound_import i.1), group_count is)
  imports_count (Group2 names i) = omega (arith, length-map names (λ (n : List ℕ). bound_import i))

  defined_count : (d : Defined N P) → 1 + length (bound_segment d) ≤ defined_weight d
  defined_count (Imported from name t) = omega arith
  defined_count (Func f) = omega arith
  defined_count (Table t init) = omega arith
  defined_count (TableOf wide t es) = omega arith
  defined_count (Memory t) = omega arith
  defined_count (MemoryOf wide page vs) = omega arith
  defined_count (Global t init) = omega arith
  defined_count (Tag u) = omega arith

  items_count : (f : Field N P) → length (items f) ≤ weight f
  items_count (TypeField t) = omega arith
  items_count (RecField r) = omega (arith, length-map r.types bound_type, rec_count r.types)
  items_count (ImportField i) = imports_count i.items
  items_count (Define d) = omega (arith, defined_count d.defined)
  items_count (ExportField e) = omega arith
  items_count (StartField s) = omega arith
  items_count (ElemField e) = omega arith
  items_count (DataField d) = omega arith
  items_count (CustomField c) = omega arith

  pub few_items : (s : Space) (fs : List (Field N P)) → length (items_in s fs) ≤ total weight fs
  few_items s fs = omega (arith, few_left (λ (b : Bound N P). same_space s b.space) (flat_map items fs), count_below weight items items_count fs)

  -- FUNCTIONS of their index space
  functions_count : (t : ExternType N P) → length (imported_function t) ≤ 1
  functions_count (OfFunc u) = omega arith
  functions_count (OfExactFunc u) = omega arith
  functions_count (OfTable t) = omega arith
  functions_count (OfMemory t) = omega arith
  functions_count (OfGlobal t) = omega arith
  functions_count (OfTag u) = omega arith

  imported_functions : (ts : List (ExternType N P)) → length (flat_map imported_function ts) ≤ length ts
  imported_functions [] = omega arith
  imported_functions (t ∷ ts) = omega (arith, length-append (imported_function t) (flat_map imported_function ts), functions_count t, imported_functions ts)

  imported_count : (i : ImportItems N P) → length (imported i) ≤ import_weight i
  imported_count (Single name i) = omega arith
  imported_count (Group1 is) = omega (arith, length-map is (λ (i : List ℕ × Item N P). i.1.extern_type), group_count is)
  imported_count (Group2 names i) = omega (arith, length-map names (λ (n : List ℕ). i.extern_type))

  defined_functions : (d : Defined N P) → length (defined_function d) ≤ defined_weight d
  defined_functions (Func f) = omega arith
  defined_functions (Imported from name t) = omega arith
  defined_functions (Table t init) = omega arith
  defined_functions (TableOf wide t es) = omega arith
  defined_functions (Memory t) = omega arith
  defined_functions (MemoryOf wide page vs) = omega arith
  defined_functions (Global t init) = omega arith
  defined_functions (Tag u) = omega arith

  bodies_count : (f : Field N P) → length (bodies_in f) ≤ weight f
  bodies_count (ImportField i) = omega (arith, imported_functions (imported i.items), imported_count i.items)
  bodies_count (Define d) = defined_functions d.defined
  bodies_count (TypeField t) = omega arith
  bodies_count (RecField r) = omega arith
  bodies_count (ExportField e) = omega arith
  bodies_count (StartField s) = omega arith
  bodies_count (ElemField e) = omega arith
  bodies_count (DataField d) = omega arith
  bodies_count (CustomField c) = omega arith

  pub few_bodies : (fs : List (Field N P)) → length (flat_map bodies_in fs) ≤ total weight fs
  few_bodies fs = count_below weight bodies_in bodies_count fs

  -- what is in them
  abbrev pub body_weight : Option (Function N P) → ℕ
  body_weight None = 0
  body_weight (Some f) = use_weight f.type_use + length f.locals + length f.body.instrs

  unbodied : (n : ℕ) (t : ExternType N P) → All (Below body_weight n) (imported_function t)
  unbodied n (OfFunc u) = one_below body_weight n None (omega arith)
  unbodied n (OfExactFunc u) = one_below body_weight n None (omega arith)
  unbodied n (OfTable t) = none_below body_weight n
  unbodied n (OfMemory t) = none_below body_weight n
  unbodied n (OfGlobal t) = none_below body_weight n
  unbodied n (OfTag u) = none_below body_weight n

  all_unbodied : (n : ℕ) (ts : List (ExternType N P)) → All (Below body_weight n) (flat_map imported_function ts)
  all_unbodied n [] = none_below body_weight n
  all_unbodied n (t ∷ ts) = All-append (Below body_weight n) (imported_function t) (flat_map imported_function ts) (unbodied n t) (all_unbodied n ts)

  defined_body : (d : Defined N P) → All (Below body_weight (defined_weight d)) (defined_function d)
  defined_body (Func f) = one_below body_weight (defined_weight (Func f)) (Some f) (omega arith)
  defined_body (Imported from name t) = none_below body_weight 1
  defined_body (Table t init) = none_below body_weight 1
  defined_body (TableOf wide t es) = none_below body_weight 2
  defined_body (Memory t) = none_below body_weight 1
  defined_body (MemoryOf wide page vs) = none_below body_weight 2
  defined_body (Global t init) = none_below body_weight 1
  defined_body (Tag u) = none_below body_weight (use_weight u + 1)

  field_bodies : (f : Field N P) → All (Below body_weight (weight f)) (bodies_in f)
  field_bodies (ImportField i) = all_unbodied (import_weight i.items) (imported i.items)
  field_bodies (Define d) = defined_body d.defined
  field_bodies (TypeField t) = none_below body_weight (type_weight t)
  field_bodies (RecField r) = none_below body_weight (total type_weight r.types)
  field_bodies (ExportField e) = none_below body_weight 0
  field_bodies (StartField s) = none_below body_weight 0
  field_bodies (ElemField e) = none_below body_weight 1
  field_bodies (DataField d) = none_below body_weight 1
  field_bodies (CustomField c) = none_below body_weight 0

  pub small_bodies : (fs : List (Field N P)) → All (Below body_weight (total weight fs)) (flat_map bodies_in fs)
  small_bodies fs = each_below body_weight weight bodies_in field_bodies fs

  -- TYPES that are written, and what is in them
  abbrev pub written_weight : TypeItem N P × Bool → ℕ
  written_weight t = inner_weight t.0.definition.comp.inner

  rec_types : (ts : List (TypeItem N P)) → All (Below written_weight (total type_weight ts)) (map (λ t. (t, true)) ts)
  rec_types [] = none_below written_weight 0
  rec_types (t ∷ ts) =
      let all = type_weight t + total type_weight ts in
      All-cons (Below written_weight all) (t, true) (map (λ t. (t, true)) ts) (omega arith)
      (raised written_weight (total type_weight ts) all (omega arith) (map (λ t. (t, true)) ts) (rec_types ts))

  field_types : (f : Field N P) → All (Below written_weight (weight f)) (written_types f)
  field_types (TypeField t) = one_below written_weight (type_weight t) (t, false) (omega arith)
  field_types (RecField r) = rec_types r.types
  field_types (ImportField i) = none_below written_weight (import_weight i.items)
  field_types (Define d) = none_below written_weight (defined_weight d.defined)
  field_types (ExportField e) = none_below written_weight 0
  field_types (StartField s) = none_below written_weight 0
  field_types (ElemField e) = none_below written_weight 1
  field_types (DataField d) = none_below written_weight 1
  field_types (CustomField c) = none_below written_weight 0

  pub small_types : (fs : List (Field N P)) → All (Below written_weight (total weight fs)) (flat_map written_types fs)
  small_types fs = each_below written_weight weight written_types field_types fs

  types_count : (f : Field N P) → length (written_types f) ≤ weight f
  types_count (TypeField t) = omega arith
  types_count (RecField r) = omega (arith, length-map {B = TypeItem N P × Bool} r.types (λ t. (t, true)), rec_count r.types)
  types_count (ImportField i) = omega arith
  types_count (Define d) = omega arith
  types_count (ExportField e) = omega arith
  types_count (StartField s) = omega arith
  types_count (ElemField e) = omega arith
  types_count (DataField d) = omega arith
  types_count (CustomField c) = omega arith

  pub few_types : (fs : List (Field N P)) → length (flat_map written_types fs) ≤ total weight fs
  few_types fs = count_below weight written_types types_count fs

  -- the fields of types, as items have them
  abbrev pub bound_weight : Bound N P → ℕ
  bound_weight b = length b.fields

  fields_count : (t : InnerType N P) → length (fields_of t) ≤ inner_weight t
  fields_count (FuncType s) = omega arith
  fields_count (StructType fs) = omega (arith, length-map fs (λ f. f.id))
  fields_count (ArrayType t) = omega arith
  fields_count (ContType i) = omega arith

  rec_bounds : (ts : List (TypeItem N P)) → All (Below bound_weight (total type_weight ts)) (map bound_type ts)
  rec_bounds [] = none_below bound_weight 0
  rec_bounds (t ∷ ts) =
      let all = type_weight t + total type_weight ts in
      All-cons (Below bound_weight all) (bound_type t) (map bound_type ts) (omega (arith, fields_count t.definition.comp.inner))
      (raised bound_weight (total type_weight ts) all (omega arith) (map bound_type ts) (rec_bounds ts))

  unfielded : {A : Type 0} (g : A → Bound N P) → ((a : A) → length (g a).fields ≡ 0) → (n : ℕ) (xs : List A) → All (Below bound_weight n) (map g xs)
  unfielded g none n [] = none_below bound_weight n
  unfielded g none n (x ∷ xs) = All-cons (Below bound_weight n) (g x) (map g xs) (omega (arith, none x)) (unfielded g none n xs)

  imported_bounds : (i : ImportItems N P) → All (Below bound_weight (import_weight i)) (bound_imports i)
  imported_bounds (Single name i) = one_below bound_weight (extern_weight i.extern_type + 1) (bound_import i) (omega arith)
  imported_bounds (Group1 is) = unfielded (λ (i : List ℕ × Item N P). bound_import i.1) (λ i. refl) (import_weight (Group1 is)) is
  imported_bounds (Group2 names i) = unfielded (λ (n : List ℕ). bound_import i) (λ n. refl) (import_weight (Group2 names i)) names

  segment_bounds : (n : ℕ) (d : Defined N P) → All (Below bound_weight n) (bound_segment d)
  segment_bounds n (TableOf wide t es) = one_below bound_weight n (bound text.Elems None None) (omega arith)
  segment_bounds n (MemoryOf wide page vs) = one_below bound_weight n (bound text.Datas None None) (omega arith)
  segment_bounds n (Imported from name t) = none_below bound_weight n
  segment_bounds n (Func f) = none_below bound_weight n
  segment_bounds n (Table t init) = none_below bound_weight n
  segment_bounds n (Memory t) = none_below bound_weight n
  segment_bounds n (Global t init) = none_below bound_weight n
  segment_bounds n (Tag u) = none_below bound_weight n

  field_bounds : (f : Field N P) → All (Below bound_weight (weight f)) (items f)
  field_bounds (TypeField t) = one_below bound_weight (type_weight t) (bound_type t) (omega (arith, fields_count t.definition.comp.inner))
  field_bounds (RecField r) = rec_bounds r.types
  field_bounds (ImportField i) = imported_bounds i.items
  field_bounds (Define d) =
      let n = defined_weight d.defined in
      All-cons (Below bound_weight n) _ (bound_segment d.defined) (omega arith) (segment_bounds n d.defined)
  field_bounds (ExportField e) = none_below bound_weight 0
  field_bounds (StartField s) = none_below bound_weight 0
  field_bounds (ElemField e) = one_below bound_weight 1 (bound text.Elems e.id e.given) (omega arith)
  field_bounds (DataField d) = one_below bound_weight 1 (bound text.Datas d.id d.given) (omega arith)
  field_bounds (CustomField c) = none_below bound_weight 0

  pub small_bounds : (s : Space) (fs : List (Field N P)) → All (Below bound_weight (total weight fs)) (items_in s fs)
  small_bounds s fs = left_below bound_weight _ (total weight fs) (flat_map items fs) (each_below bound_weight weight items field_bounds fs)

  -- TAGS
  one_tag : (t : ExternType N P) → length (imported_tag t) ≤ 1
  one_tag (OfFunc u) = omega arith
  one_tag (OfExactFunc u) = omega arith
  one_tag (OfTable t) = omega arith
  one_tag (OfMemory t) = omega arith
  one_tag (OfGlobal t) = omega arith
  one_tag (OfTag u) = omega arith

  imported_tags : (ts : List (ExternType N P)) → length (flat_map imported_tag ts) ≤ length ts
  imported_tags [] = omega arith
  imported_tags (t ∷ ts) = omega (arith, length-append (imported_tag t) (flat_map imported_tag ts), one_tag t, imported_tags ts)

  defined_tags : (d : Defined N P) → length (defined_tag d) ≤ defined_weight d
  defined_tags (Func f) = omega arith
  defined_tags (Imported from name t) = omega arith
  defined_tags (Table t init) = omega arith
  defined_tags (TableOf wide t es) = omega arith
  defined_tags (Memory t) = omega arith
  defined_tags (MemoryOf wide page vs) = omega arith
  defined_tags (Global t init) = omega arith
  defined_tags (Tag u) = omega arith

  tags_count : (f : Field N P) → length (tags_in f) ≤ weight f
  tags_count (ImportField i) = omega (arith, imported_tags (imported i.items), imported_count i.items)
  tags_count (Define d) = defined_tags d.defined
  tags_count (TypeField t) = omega arith
  tags_count (RecField r) = omega arith
  tags_count (ExportField e) = omega arith
  tags_count (StartField s) = omega arith
  tags_count (ElemField e) = omega arith
  tags_count (DataField d) = omega arith
  tags_count (CustomField c) = omega arith

  pub few_tags : (fs : List (Field N P)) → length (flat_map tags_in fs) ≤ total weight fs
  few_tags fs = count_below weight tags_in tags_count fs

  tag_of : (t : ExternType N P) → All (Below use_weight (extern_weight t)) (imported_tag t)
  tag_of (OfFunc u) = none_below use_weight 0
  tag_of (OfExactFunc u) = none_below use_weight 0
  tag_of (OfTable t) = none_below use_weight 0
  tag_of (OfMemory t) = none_below use_weight 0
  tag_of (OfGlobal t) = none_below use_weight 0
  tag_of (OfTag u) = one_below use_weight (use_weight u) u (omega arith)

  group_tags : (is : List (List ℕ × Item N P)) → All (Below use_weight (total (λ i. extern_weight i.1.extern_type + 1) is)) (flat_map imported_tag (map (λ i. i.1.extern_type) is))
  group_tags [] = none_below use_weight 0
  group_tags (i ∷ is) =
      let rest = total (λ (i : List ℕ × Item N P). extern_weight i.1.extern_type + 1) is in
      let all = extern_weight i.1.extern_type + 1 + rest in
      let others = flat_map imported_tag (map (λ (i : List ℕ × Item N P). i.1.extern_type) is) in
      All-append (Below use_weight all) (imported_tag i.1.extern_type) others
      (raised use_weight (extern_weight i.1.extern_type) all (omega arith) (imported_tag i.1.extern_type) (tag_of i.1.extern_type))
      (raised use_weight rest all (omega arith) others (group_tags is))

  same_tags : (n : ℕ) (t : ExternType N P) → extern_weight t ≤ n → (names : List (List ℕ)) → All (Below use_weight n) (flat_map imported_tag (map (λ name. t) names))
  same_tags n t l [] = none_below use_weight n
  same_tags n t l (name ∷ names) =
      All-append (Below use_weight n) (imported_tag t) (flat_map imported_tag (map (λ (name : List ℕ). t) names))
      (raised use_weight (extern_weight t) n l (imported_tag t) (tag_of t)) (same_tags n t l names)

  import_tags : (i : ImportItems N P) → All (Below use_weight (import_weight i)) (flat_map imported_tag (imported i))
  import_tags (Single name i) =
      let n = extern_weight i.extern_type + 1 in
      All-append (Below use_weight n) (imported_tag i.extern_type) [] (raised use_weight (extern_weight i.extern_type) n (omega arith) (imported_tag i.extern_type) (tag_of i.extern_type)) (none_below use_weight n)
  import_tags (Group1 is) = group_tags is
  import_tags (Group2 names i) = same_tags (extern_weight i.extern_type + length names) i.extern_type (omega arith) names

  tag_defined : (d : Defined N P) → All (Below use_weight (defined_weight d)) (defined_tag d)
  tag_defined (Tag u) = one_below use_weight (use_weight u + 1) u (omega arith)
  tag_defined (Func f) = none_below use_weight (defined_weight (Func f))
  tag_defined (Imported from name t) = none_below use_weight 1
  tag_defined (Table t init) = none_below use_weight 1
  tag_defined (TableOf wide t es) = none_below use_weight 2
  tag_defined (Memory t) = none_below use_weight 1
  tag_defined (MemoryOf wide page vs) = none_below use_weight 2
  tag_defined (Global t init) = none_below use_weight 1

  field_tags : (f : Field N P) → All (Below use_weight (weight f)) (tags_in f)
  field_tags (ImportField i) = import_tags i.items
  field_tags (Define d) = tag_defined d.defined
  field_tags (TypeField t) = none_below use_weight (type_weight t)
  field_tags (RecField r) = none_below use_weight (total type_weight r.types)
  field_tags (ExportField e) = none_below use_weight 0
  field_tags (StartField s) = none_below use_weight 0
  field_tags (ElemField e) = none_below use_weight 1
  field_tags (DataField d) = none_below use_weight 1
  field_tags (CustomField c) = none_below use_weight 0

  pub small_tags : (fs : List (Field N P)) → All (Below use_weight (total weight fs)) (flat_map tags_in fs)
  small_tags fs = each_below use_weight weight tags_in field_tags fs
