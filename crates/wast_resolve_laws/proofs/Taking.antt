-- Uses that take their types: what fields say stays, but for the indices of uses; then each use that needs a type has one.
use Rattle.std.proofs.Common.{◌≡◌, ℕ, Bool, true, false, List, [], ◌∷◌, ◌++◌, map, Option, Some, None, is_some, refl, sym, ◌∙◌, ap}
use Rattle.std.specs.Prelude.{◌||◌, not, unwrap_or, option_map, filter, if◌then◌else◌}
use Rattle.std.specs.List.{flat_map, list_all}
use Rattle.std.specs.Cmp.Derive.{both_true}
use Rattle.std.proofs.lemmas.Bool.{false≢true}
use Rattle.std.proofs.lemmas.List.{map-append, map-id}
use Rattle.std.proofs.lemmas.Grind.{flat_map-append}
use Rattle.std.proofs.lemmas.List.Folds.{list_all-append}
use Rattle.wasm_encoder_base.specs.Table.{Types}
use Rattle.wast_parser.specs.Identifiers.{Reference, ByNumber}
use Rattle.wast_value_types.specs.ValueTree.{HeapType, Abstract, Concrete, Exact, RefType, ValType, Number, Ref, StorageType, Packed, Value, FieldType}
use Rattle.wast_signatures.specs.TypeTree.{Local, Sig, InnerType, FuncType, StructType, ArrayType, ContType, StructField, TypeItem}
use Rattle.wast_core_instr.specs.InstructionTree.{Instruction}
use Rattle.wast_field_syntax.specs.FieldTree.{Field}
use Rattle.wast_meaning.specs.Mentions.{Mention, Refers, Member, Uses, UsesInBlock, Repeats, Part, Says, Constant, Body, heap_mentions, val_mentions, local_mentions, sig_mentions, instr_mentions, expr_mentions, parts, part_mentions, field_mentions}
use Rattle.wast_meaning.specs.Implied.{no_sig, is_short, sig_of_mention}
use Rattle.wast_meaning.specs.Changed.{Changes, heap_changed, ref_changed, val_changed, storage_changed, field_type_changed, local_changed, sig_changed, inner_changed, type_changed, instr_changed, instrs_changed}
use Rattle.wast_meaning.specs.Numbered.{taken_unless_short, taking, with_types}
use Rattle.wast_meaning.proofs.Resolved.{unless}
use Rattle.wast_meaning.proofs.Settled.{left, right, two, front, back}
use Rattle.wast_meaning.specs.Settled.{is_typed}
use Rattle.wast_resolve_laws.proofs.Changes.{mention_changed, part_changed, locals_so, instr_so, parts_so}

pub all_same : {A : Type 0} (h : A → A) → ((x : A) → h x ≡ x) → (xs : List A) → map h xs ≡ xs
all_same h same [] = refl
all_same h same (x ∷ xs) = two (λ a b. a ∷ b) (same x) (all_same h same xs)

one_same : {A : Type 0} (h : A → A) → ((x : A) → h x ≡ x) → (o : Option A) → option_map h o ≡ o
one_same h same None = refl
one_same h same (Some x) = ap (λ a. Some a) (same x)

module _ {A : Type 0} (q : A → Bool) where
  pub both : (xs ys : List A) → list_all q xs ≡ true → list_all q ys ≡ true → list_all q (xs ++ ys) ≡ true
  both xs ys a b = list_all-append q xs ys ∙ both_true a b

module _ {N P : Type 0} (taken : Sig N P → Option ℕ) (p : P) where
  -- TYPES stay
  heap_same : (h : HeapType N P) → heap_changed (taking taken p) h ≡ h
  heap_same (Abstract shared w) = refl
  heap_same (Concrete i) = refl
  heap_same (Exact i) = refl

  ref_same : (r : RefType N P) → ref_changed (taking taken p) r ≡ r
  ref_same r = ap (λ h. record r { heap_type = h }) (heap_same r.heap_type)

  val_same : (t : ValType N P) → val_changed (taking taken p) t ≡ t
  val_same (Number t) = refl
  val_same (Ref r) = ap (λ x. Ref x) (ref_same r)

  storage_same : (t : StorageType N P) → storage_changed (taking taken p) t ≡ t
  storage_same (Packed t) = refl
  storage_same (Value t) = ap (λ x. Value x) (val_same t)

  field_type_same : (t : FieldType N P) → field_type_changed (taking taken p) t ≡ t
  field_type_same t = ap (λ s. record t { storage = s }) (storage_same t.storage)

  local_same : (l : Local N P) → local_changed (taking taken p) l ≡ l
  local_same l = ap (λ t. record l { val_type = t }) (val_same l.val_type)

  pub sig_same : (s : Sig N P) → sig_changed (taking taken p) s ≡ s
  sig_same s = two (λ ps rs. record { params = ps; results = rs }) (all_same (local_changed (taking taken p)) local_same s.params) (all_same (val_changed (taking taken p)) val_same s.results)

  struct_field_same : (f : StructField N P) → record { id = f.id; field_type = field_type_changed (taking taken p) f.field_type } ≡ f
  struct_field_same f = ap (λ t. record f { field_type = t }) (field_type_same f.field_type)

  inner_same : (t : InnerType N P) → inner_changed (taking taken p) t ≡ t
  inner_same (FuncType s) = ap (λ x. FuncType x) (sig_same s)
  inner_same (StructType fs) = ap (λ x. StructType x) (all_same (λ (f : StructField N P). record { id = f.id; field_type = field_type_changed (taking taken p) f.field_type }) struct_field_same fs)
  inner_same (ArrayType t) = ap (λ x. ArrayType x) (field_type_same t)
  inner_same (ContType i) = refl

  kept_index : (o : Option (Reference N P)) → option_map (λ i. i) o ≡ o
  kept_index o = one_same (λ i. i) (λ i. refl) o

  pub type_same : (t : TypeItem N P) → type_changed (taking taken p) t ≡ t
  type_same t =
      let d = t.definition in
      ap (λ x. record t { definition = record { is_final = d.is_final; supertype = x; describes = option_map (λ i. i) d.describes; descriptor = option_map (λ i. i) d.descriptor; comp = record { shared = d.comp.shared; inner = inner_changed (taking taken p) d.comp.inner } } })
      (kept_index d.supertype)
      ∙ ap (λ x. record t { definition = record d { describes = x; descriptor = option_map (λ i. i) d.descriptor; comp = record { shared = d.comp.shared; inner = inner_changed (taking taken p) d.comp.inner } } })
      (kept_index d.describes)
      ∙ ap (λ x. record t { definition = record d { descriptor = x; comp = record { shared = d.comp.shared; inner = inner_changed (taking taken p) d.comp.inner } } })
      (kept_index d.descriptor)
      ∙ ap (λ x. record t { definition = record d { comp = record { shared = d.comp.shared; inner = x } } })
      (inner_same d.comp.inner)

  pub inline_same : (o : Option (Sig N P)) → option_map (sig_changed (taking taken p)) o ≡ o
  inline_same o = one_same (sig_changed (taking taken p)) sig_same o

  pub locals_same : (ls : List (Local N P)) → map (local_changed (taking taken p)) ls ≡ ls
  locals_same ls = all_same (local_changed (taking taken p)) local_same ls

  -- WHAT IS SAID
  abbrev pub all_taking : Changes N P
  all_taking = record { outside = taking taken p; in_constant = λ before i. taking taken p; in_function = λ g before i. taking taken p }

  abbrev pub said : Mention N P → Mention N P
  said m = mention_changed (taking taken p) m

  abbrev plainly : Mention N P → Mention N P
  plainly m = m

  as_said : (new old : List (Mention N P)) → map plainly new ≡ map said old → new ≡ map said old
  as_said new old h = sym (map-id new) ∙ h

  pub instr_said : (i : Instruction N P) → instr_mentions (instr_changed (taking taken p) i) ≡ map said (instr_mentions i)
  instr_said i = as_said (instr_mentions (instr_changed (taking taken p) i)) (instr_mentions i) (instr_so (taking taken p) plainly (λ s t j. refl) i)

  pub locals_said : (ls : List (Local N P)) → local_mentions (map (local_changed (taking taken p)) ls) ≡ map said (local_mentions ls)
  locals_said ls = as_said (local_mentions (map (local_changed (taking taken p)) ls)) (local_mentions ls) (locals_so (taking taken p) plainly ls)

  instrs_said : (before is : List (Instruction N P)) → flat_map instr_mentions (instrs_changed (λ b i. taking taken p) before is) ≡ map said (flat_map instr_mentions is)
  instrs_said before [] = refl
  instrs_said before (i ∷ is) =
      two (λ a b. a ++ b) (instr_said i) (instrs_said (i ∷ before) is) ∙ sym (map-append said (instr_mentions i) (flat_map instr_mentions is))

  part_said : (x : Part N P) → part_mentions (part_changed all_taking x) ≡ map said (part_mentions x)
  part_said (Says m) = refl
  part_said (Constant e) = instrs_said [] e.instrs
  part_said (Body f) =
      ap (λ l. said (Uses f.type_use) ∷ l)
      (two (λ a b. a ++ b) (locals_said f.locals) (instrs_said [] f.body.instrs) ∙ sym (map-append said (local_mentions f.locals) (expr_mentions f.body)))

  parts_said : (xs : List (Part N P)) → flat_map part_mentions (map (part_changed all_taking) xs) ≡ map said (flat_map part_mentions xs)
  parts_said [] = refl
  parts_said (x ∷ xs) = two (λ a b. a ++ b) (part_said x) (parts_said xs) ∙ sym (map-append said (part_mentions x) (flat_map part_mentions xs))

  pub field_said : (f : Field N P) → field_mentions (with_types taken p f) ≡ map said (field_mentions f)
  field_said f = ap (λ l. flat_map part_mentions l) (parts_so all_taking f) ∙ parts_said (parts f)

  -- USES THAT HAVE THEIR TYPES, where those are there that uses without index take
  abbrev pub is_there : Sig N P → Bool
  is_there s = is_some (taken s)

  abbrev number : ℕ → Reference N P
  number n = ByNumber n p

  found : (o : Option ℕ) → is_some o ≡ true → is_some (option_map number o) ≡ true
  found None h = elim (false≢true h) [ ]
  found (Some n) h = refl

  abbrev or_taken : Option (Reference N P) → Sig N P → Option (Reference N P)
  or_taken i s = elim i [ Some j ↦ Some j | None ↦ option_map number (taken s) ]

  use_typed : (i : Option (Reference N P)) (s : Sig N P) → list_all is_there (unless i s) ≡ true → is_some (or_taken i s) ≡ true
  use_typed None s h = found (taken s) (left (is_there s) true h)
  use_typed (Some j) s h = refl

  block_typed : (i : Option (Reference N P)) (s : Sig N P) (short : Bool) → is_short s ≡ short → list_all is_there (filter (λ t. not (is_short t)) (unless i s)) ≡ true →
      (is_some (if short then i else or_taken i s) || short) ≡ true
  block_typed None s true e h = refl
  block_typed None s false e h =
      ap (λ b. b || false) (found (taken s) (left (is_there s) true (ap (λ b. list_all is_there (if not b then s ∷ [] else [])) (sym e) ∙ h)))
  block_typed (Some j) s true e h = refl
  block_typed (Some j) s false e h = refl

  typed : (m : Mention N P) → list_all is_there (sig_of_mention m) ≡ true → is_typed (said m) ≡ true
  typed (Refers s i) h = refl
  typed (Member t i) h = refl
  typed (Repeats id) h = refl
  typed (Uses u) h = use_typed u.index (unwrap_or u.inline no_sig) h
  typed (UsesInBlock u) h =
      ap (λ o. is_some (taken_unless_short taken p u) || is_short (unwrap_or o no_sig)) (inline_same u.inline)
      ∙ block_typed u.index (unwrap_or u.inline no_sig) (is_short (unwrap_or u.inline no_sig)) refl h

  pub all_typed : (ms : List (Mention N P)) → list_all is_there (flat_map sig_of_mention ms) ≡ true → list_all is_typed (map said ms) ≡ true
  all_typed [] h = refl
  all_typed (m ∷ ms) h =
      both_true (typed m (front is_there (sig_of_mention m) (flat_map sig_of_mention ms) h)) (all_typed ms (back is_there (sig_of_mention m) (flat_map sig_of_mention ms) h))

  pub field_typed : (f : Field N P) → list_all is_there (flat_map sig_of_mention (field_mentions f)) ≡ true → list_all is_typed (field_mentions (with_types taken p f)) ≡ true
  field_typed f h = ap (λ l. list_all is_typed l) (field_said f) ∙ all_typed (field_mentions f) h

-- A SIGNATURE SAYS INDICES OF TYPES ALONE
module _ {N P A : Type 0} (f g : Mention N P → List A) (same : (i : Reference N P) → f (Refers Types i) ≡ g (Refers Types i)) where
  heap_says : (h : HeapType N P) → flat_map f (heap_mentions h) ≡ flat_map g (heap_mentions h)
  heap_says (Abstract shared w) = refl
  heap_says (Concrete i) = ap (λ l. l ++ []) (same i)
  heap_says (Exact i) = ap (λ l. l ++ []) (same i)

  val_says : (t : ValType N P) → flat_map f (val_mentions t) ≡ flat_map g (val_mentions t)
  val_says (Number t) = refl
  val_says (Ref r) = heap_says r.heap_type

  vals_say : (ts : List (ValType N P)) → flat_map f (flat_map val_mentions ts) ≡ flat_map g (flat_map val_mentions ts)
  vals_say [] = refl
  vals_say (t ∷ ts) =
      flat_map-append f (val_mentions t) (flat_map val_mentions ts) ∙ two (λ a b. a ++ b) (val_says t) (vals_say ts) ∙ sym (flat_map-append g (val_mentions t) (flat_map val_mentions ts))

  pub locals_say : (ls : List (Local N P)) → flat_map f (local_mentions ls) ≡ flat_map g (local_mentions ls)
  locals_say [] = refl
  locals_say (l ∷ ls) =
      flat_map-append f (val_mentions l.val_type) (local_mentions ls) ∙ two (λ a b. a ++ b) (val_says l.val_type) (locals_say ls) ∙ sym (flat_map-append g (val_mentions l.val_type) (local_mentions ls))

  pub sig_says : (s : Sig N P) → flat_map f (sig_mentions s) ≡ flat_map g (sig_mentions s)
  sig_says s =
      flat_map-append f (local_mentions s.params) (flat_map val_mentions s.results)
      ∙ two (λ a b. a ++ b) (locals_say s.params) (vals_say s.results)
      ∙ sym (flat_map-append g (local_mentions s.params) (flat_map val_mentions s.results))

-- so it holds no use
module _ {N P : Type 0} (q : Mention N P → Bool) (holds : (i : Reference N P) → q (Refers Types i) ≡ true) where
  pub heap_holds : (h : HeapType N P) → list_all q (heap_mentions h) ≡ true
  heap_holds (Abstract shared w) = refl
  heap_holds (Concrete i) = both_true (holds i) refl
  heap_holds (Exact i) = both_true (holds i) refl

  val_holds : (t : ValType N P) → list_all q (val_mentions t) ≡ true
  val_holds (Number t) = refl
  val_holds (Ref r) = heap_holds r.heap_type

  pub vals_hold : (ts : List (ValType N P)) → list_all q (flat_map val_mentions ts) ≡ true
  vals_hold [] = refl
  vals_hold (t ∷ ts) = both q (val_mentions t) (flat_map val_mentions ts) (val_holds t) (vals_hold ts)

  locals_hold : (ls : List (Local N P)) → list_all q (local_mentions ls) ≡ true
  locals_hold [] = refl
  locals_hold (l ∷ ls) = both q (val_mentions l.val_type) (local_mentions ls) (val_holds l.val_type) (locals_hold ls)

  pub sig_holds : (s : Sig N P) → list_all q (sig_mentions s) ≡ true
  sig_holds s = both q (local_mentions s.params) (flat_map val_mentions s.results) (locals_hold s.params) (vals_hold s.results)

-- where uses have their types, none is implied
module _ {N P : Type 0} where
  no_use_sig : (i : Option (Reference N P)) (s : Sig N P) → is_some i ≡ true → unless i s ≡ []
  no_use_sig None s h = elim (false≢true h) [ ]
  no_use_sig (Some j) s h = refl

  no_block_sig : (i : Option (Reference N P)) (s : Sig N P) (short : Bool) → is_short s ≡ short → (is_some i || short) ≡ true →
      filter (λ t. not (is_short t)) (unless i s) ≡ []
  no_block_sig None s true e h = ap (λ b. if not b then s ∷ [] else []) e
  no_block_sig None s false e h = elim (false≢true h) [ ]
  no_block_sig (Some j) s short e h = refl

  no_sig_of : (m : Mention N P) → is_typed m ≡ true → sig_of_mention m ≡ []
  no_sig_of (Refers s i) h = refl
  no_sig_of (Member t i) h = refl
  no_sig_of (Repeats id) h = refl
  no_sig_of (Uses u) h = no_use_sig u.index (unwrap_or u.inline no_sig) h
  no_sig_of (UsesInBlock u) h = no_block_sig u.index (unwrap_or u.inline no_sig) (is_short (unwrap_or u.inline no_sig)) refl h

  pub no_sigs : (ms : List (Mention N P)) → list_all is_typed ms ≡ true → flat_map sig_of_mention ms ≡ []
  no_sigs [] h = refl
  no_sigs (m ∷ ms) h =
      two (λ a b. a ++ b) (no_sig_of m (left (is_typed m) (list_all is_typed ms) h)) (no_sigs ms (right (is_typed m) (list_all is_typed ms) h))
