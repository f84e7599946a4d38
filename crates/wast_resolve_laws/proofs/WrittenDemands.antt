-- Where the names that are made are fresh, what fields are written out as keeps to what the fields keep to: the first demand that isn't met is the same.
use Rattle.std.proofs.Common.{◌≡◌, ℕ, zero, suc, Bool, true, false, List, [], ◌∷◌, ◌++◌, map, Option, Some, None, is_some, refl, sym, ◌∙◌, ap}
use Rattle.std.specs.Prelude.{◌&&◌, not, nat_eq, filter_map, slice_get, option_to_list, option_and_then, unwrap_or}
use Rattle.std.specs.List.{flat_map, list_any, list_all}
use Rattle.std.specs.Cmp.Derive.{both_true}
use Rattle.std.specs.Cmp.Lexicographic.{pointwise}
use Rattle.std.proofs.Math.Path.{fun_ext}
use Rattle.std.proofs.lemmas.Bool.{false≢true}
use Rattle.std.proofs.lemmas.Option.{none-some, same_Some}
use Rattle.std.proofs.lemmas.List.{map-append}
use Rattle.std.proofs.lemmas.List.Elements.{filter-append}
use Rattle.std.proofs.lemmas.Grind.{flat_map-append}
use Rattle.wasm_encoder_base.specs.Table.{OperandSyntax, Space, Labels, Locals, Functions, Types, Tables, Memories, Globals, Tags, Datas, Elems, Fields}
use Rattle.wast_parser.specs.Identifiers.{Reference, ByNumber, ByName}
use Rattle.wast_names.specs.Position.{bears}
use Rattle.wast_names.specs.Walk.{first_unmet}
use Rattle.wast_names.specs.Demand.{Demand, Unknown, TypeMismatch, is_met}
use Rattle.wast_names.specs.Space as names
use Rattle.wast_names.specs.Space.{number_of}
use Rattle.wast_value_types.specs.ValueTree.{HeapType, Abstract, Concrete, Exact, ValType, Number, Ref, StorageType, Packed, Value}
use Rattle.wast_signatures.specs.TypeTree.{Local, Sig, InnerType, FuncType, StructType, ArrayType, ContType, TypeItem, TypeUse}
use Rattle.wast_operands.specs.OperandTree.{MemArgTarget, Handle, OnLabel, OnSwitch}
use Rattle.wast_operands.specs.OperandTree as operand
use Rattle.wast_typed_operands.specs.TypedTree.{Catch, CatchTag, CatchTagRef, CatchAll, CatchAllRef}
use Rattle.wast_core_instr.specs.InstructionTree.{Operands, Instruction}
use Rattle.wast_core_instr.specs.InstructionTree as instr
use Rattle.wast_exports.specs.Exports as exports
use Rattle.wast_imports.specs.ImportTree.{ExternType, OfFunc, OfExactFunc, OfTable, OfMemory, OfGlobal, OfTag, ImportItems, Single, Group1, Group2}
use Rattle.wast_field_syntax.specs.FieldTree.{Expr, Function, Elements, Indices, Expressions, Defined, Imported, Func, Table, TableOf, Memory, MemoryOf, Global, Tag, ElemMode, PassiveElem, DeclaredElem, ActiveElem, DataMode, PassiveData, ActiveData, Field, TypeField, RecField, ImportField, Define, ExportField, StartField, ElemField, DataField, CustomField, field_place}
use Rattle.wast_meaning.specs.Written.{space_of_kind, kind_of, zero_offset, name_or, field_out, written_from, written_out}
use Rattle.wast_meaning.specs.Mentions.{Mention, Refers, Member, Uses, UsesInBlock, Repeats, Part, Says, Constant, Body, first_space, syntax_of, second_space, second_mention, catch_mentions, handle_mentions, target_mention, operand_mentions, instr_mentions, expr_mentions, heap_mentions, ref_mentions, val_mentions, local_mentions, sig_mentions, storage_mentions, inner_mentions, type_mentions, refers_if, use_mentions, extern_mentions, import_mentions, says, elements_parts, defined_parts, elem_mode_parts, data_mode_parts, parts, part_mentions, field_mentions}
use Rattle.wast_meaning.specs.Spaces.{space_word, items, fields_at, denotes, listed}
use Rattle.wast_meaning.specs.Implied.{no_sig, is_short, same_flag, same_option, same_heap, same_val, same_local, same_sig, sig_of_use, sig_of_mention, used_sigs, written_types, func_sig, plain_sig, unnamed, implied, implied_sigs, sig_at}
use Rattle.wast_meaning.specs.Scope.{Scope, labels_or, locals_or, label_space, index_space, scope_of, with_locals, scope_at, params_of, locals_of}
use Rattle.wast_meaning.specs.Demands.{order_demands, item_demands, place_of, same_numbered, agrees, agreement, agreements, says_demands, use_demands, mention_demands, instrs_demands, func_demands, part_demands, field_demands, demands}
use Rattle.wast_meaning.specs.Fresh.{reference_names, said_names, use_names, field_names, taken_from, are_distinct, are_new, is_fresh}
use Rattle.wast_meaning.proofs.Settled.{left, right, two, front, back}
use Rattle.wast_meaning.proofs.SettledFields.{said_parts}
use Rattle.wast_resolve_laws.proofs.Taking.{both, heap_holds, vals_hold, sig_holds, sig_says}
use Rattle.wast_resolve_laws.proofs.DemandsKept.{filtered, unnamed_mentions}
use Rattle.wast_resolve_laws.proofs.Outlined.{OwnQuiet, parts_out, order_written, fields_written, sig_written}
use Rattle.wast_resolve_laws.proofs.Fresh.{unlike, all_unlike, denoted_found, denotes_written, OwnFound, AllFound, all_found, own_names, items_demanded}
use Rattle.wast_resolve_laws.proofs.Unmet.{unmet, isnt_met, Alike, alike_joined, met_more, same_first}
use Rattle.wast_resolve_laws.proofs.Sigs.{sig_of_type, implied_sig, at_place, unplaced, implied_pass}

-- WHERE A FIELD IS LOOKED UP: in the type that is named before it
module _ {N P : Type 0} (old : N → Bool) where
  abbrev pub owner_old : Mention N P → Bool
  owner_old (Member t i) = list_all old (reference_names t)
  owner_old m = true

  all_of : {X : Type 0} (g : X → List (Mention N P)) → ((x : X) → list_all owner_old (g x) ≡ true) → (xs : List X) → list_all owner_old (flat_map g xs) ≡ true
  all_of g h [] = refl
  all_of g h (x ∷ xs) = both owner_old (g x) (flat_map g xs) (h x) (all_of g h xs)

  catch_owner : (x : Catch N P) → list_all owner_old (catch_mentions x) ≡ true
  catch_owner (CatchTag t l) = refl
  catch_owner (CatchTagRef t l) = refl
  catch_owner (CatchAll l) = refl
  catch_owner (CatchAllRef l) = refl

  handle_owner : (x : Handle N P) → list_all owner_old (handle_mentions x) ≡ true
  handle_owner (OnLabel t l) = refl
  handle_owner (OnSwitch t) = refl

  each_owner : (s : Space) (is : List (Reference N P)) → list_all owner_old (map (Refers s) is) ≡ true
  each_owner s [] = refl
  each_owner s (i ∷ is) = each_owner s is

  if_owner : (s : Space) (o : Option (Reference N P)) → list_all owner_old (refers_if s o) ≡ true
  if_owner s None = refl
  if_owner s (Some i) = refl

  target_owner : (o : Option (MemArgTarget N P)) → list_all owner_old (map target_mention (option_to_list o)) ≡ true
  target_owner None = refl
  target_owner (Some (operand.Memory i)) = refl
  target_owner (Some (operand.Array i)) = refl

  heap_owner : (h : HeapType N P) → list_all owner_old (heap_mentions h) ≡ true
  heap_owner h = heap_holds owner_old (λ i. refl) h

  sig_owner : (t : Sig N P) → list_all owner_old (sig_mentions t) ≡ true
  sig_owner t = sig_holds owner_old (λ i. refl) t

  use_owner : (u : TypeUse N P) → list_all owner_old (use_mentions u) ≡ true
  use_owner u = both owner_old (refers_if Types u.index) (flat_map sig_mentions (option_to_list u.inline)) (if_owner Types u.index) (all_of sig_mentions sig_owner (option_to_list u.inline))

  second_owner : (s : Space) (i j : Reference N P) → list_all old (reference_names i) ≡ true → list_all owner_old (second_mention s i j ∷ []) ≡ true
  second_owner Fields i j h = both_true h refl
  second_owner Labels i j h = refl
  second_owner Locals i j h = refl
  second_owner Functions i j h = refl
  second_owner Types i j h = refl
  second_owner Tables i j h = refl
  second_owner Memories i j h = refl
  second_owner Globals i j h = refl
  second_owner Tags i j h = refl
  second_owner Datas i j h = refl
  second_owner Elems i j h = refl

  operands_owner : (o : OperandSyntax) (x : Operands N P) → list_all old (flat_map use_names (operand_mentions o x)) ≡ true → list_all owner_old (operand_mentions o x) ≡ true
  operands_owner o instr.NoOperands h = refl
  operands_owner o (instr.Label None) h = refl
  operands_owner o (instr.Label (Some id)) h = refl
  operands_owner o (instr.Block b) h = refl
  operands_owner o (instr.TryTable t) h = all_of catch_mentions catch_owner t.catches
  operands_owner o (instr.One i) h = refl
  operands_owner o (instr.Two i j) h = second_owner (second_space o) i j (front old (reference_names i) (flat_map use_names (second_mention (second_space o) i j ∷ [])) h)
  operands_owner o (instr.Counted i n) h = refl
  operands_owner o (instr.LabelTable is i) h = both owner_old (map (Refers Labels) is) (Refers Labels i ∷ []) (each_owner Labels is) refl
  operands_owner o (instr.Indirect x) h = both owner_old (refers_if Tables x.table) (Uses x.type_use ∷ []) (if_owner Tables x.table) refl
  operands_owner o (instr.Optional i) h = if_owner (first_space o) i
  operands_owner o (instr.OptionalTwo None) h = refl
  operands_owner o (instr.OptionalTwo (Some p)) h = refl
  operands_owner o (instr.OptionalThen i j) h = both owner_old (refers_if (first_space o) i) (Refers (second_space o) j ∷ []) (if_owner (first_space o) i) refl
  operands_owner o (instr.Heap x) h = heap_owner x
  operands_owner o (instr.Ref r) h = heap_owner r.heap_type
  operands_owner o (instr.Cast x) h = both owner_old (ref_mentions x.source) (ref_mentions x.target) (heap_owner x.source.heap_type) (heap_owner x.target.heap_type)
  operands_owner o (instr.Integer z) h = refl
  operands_owner o (instr.Float text) h = refl
  operands_owner o (instr.Lanes x) h = refl
  operands_owner o (instr.Types None) h = refl
  operands_owner o (instr.Types (Some ts)) h = both owner_old (flat_map val_mentions ts) [] (vals_hold owner_old (λ i. refl) ts) refl
  operands_owner o (instr.Lane n) h = refl
  operands_owner o (instr.Shuffle ns) h = refl
  operands_owner o (instr.Memory m) h = target_owner m.target
  operands_owner o (instr.MemoryLane m n) h = target_owner m.target
  operands_owner o (instr.Fence ordering) h = refl
  operands_owner o (instr.Ordered ordering x) h = operands_owner o x h
  operands_owner o (instr.Resume i hs) h = all_of handle_mentions handle_owner hs
  operands_owner o (instr.ResumeThrow i t hs) h = all_of handle_mentions handle_owner hs

  pub instr_owner : (i : Instruction N P) → list_all old (flat_map use_names (instr_mentions i)) ≡ true → list_all owner_old (instr_mentions i) ≡ true
  instr_owner i h = operands_owner (syntax_of i.head) i.operands h

  -- fields say no field of a type by themselves
  abbrev pub part_owner : Part N P → Bool
  part_owner (Says m) = owner_old m
  part_owner x = true

  val_owner : (t : ValType N P) → list_all owner_old (val_mentions t) ≡ true
  val_owner (Number t) = refl
  val_owner (Ref r) = heap_owner r.heap_type

  storage_owner : (t : StorageType N P) → list_all owner_old (storage_mentions t) ≡ true
  storage_owner (Packed t) = refl
  storage_owner (Value t) = val_owner t

  inner_owner : (t : InnerType N P) → list_all owner_old (inner_mentions t) ≡ true
  inner_owner (FuncType s) = sig_owner s
  inner_owner (StructType fs) = all_of (λ f. storage_mentions f.field_type.storage) (λ f. storage_owner f.field_type.storage) fs
  inner_owner (ArrayType t) = storage_owner t.storage
  inner_owner (ContType i) = refl

  type_owner : (t : TypeItem N P) → list_all owner_old (type_mentions t) ≡ true
  type_owner t =
      let supers = refers_if Types t.definition.supertype in
      let described = refers_if Types t.definition.describes in
      let descriptors = refers_if Types t.definition.descriptor in
      both owner_old (supers ++ described ++ descriptors) (inner_mentions t.definition.comp.inner)
      (both owner_old (supers ++ described) descriptors (both owner_old supers described (if_owner Types t.definition.supertype) (if_owner Types t.definition.describes)) (if_owner Types t.definition.descriptor))
      (inner_owner t.definition.comp.inner)

  extern_owner : (t : ExternType N P) → list_all owner_old (extern_mentions t) ≡ true
  extern_owner (OfFunc u) = refl
  extern_owner (OfExactFunc u) = refl
  extern_owner (OfTable t) = heap_owner t.element.heap_type
  extern_owner (OfMemory t) = refl
  extern_owner (OfGlobal t) = val_owner t.val_type
  extern_owner (OfTag u) = refl

  imports_owner : (is : ImportItems N P) → list_all owner_old (import_mentions is) ≡ true
  imports_owner (Single name i) = extern_owner i.extern_type
  imports_owner (Group1 is) = all_of (λ i. extern_mentions i.1.extern_type) (λ i. extern_owner i.1.extern_type) is
  imports_owner (Group2 names i) = extern_owner i.extern_type

  says_owner : (ms : List (Mention N P)) → list_all owner_old ms ≡ true → list_all part_owner (says ms) ≡ true
  says_owner [] h = refl
  says_owner (m ∷ ms) h = both_true (left (owner_old m) (list_all owner_old ms) h) (says_owner ms (right (owner_old m) (list_all owner_old ms) h))

  constants_owner : (es : List (Expr N P)) → list_all part_owner (map Constant es) ≡ true
  constants_owner [] = refl
  constants_owner (e ∷ es) = constants_owner es

  elements_owner : (es : Elements N P) → list_all part_owner (elements_parts es) ≡ true
  elements_owner (Indices is) = says_owner (map (Refers Functions) is) (each_owner Functions is)
  elements_owner (Expressions t es) = both part_owner (says (ref_mentions t)) (map Constant es) (says_owner (ref_mentions t) (heap_owner t.heap_type)) (constants_owner es)

  defined_owner : (d : Defined N P) → list_all part_owner (defined_parts d) ≡ true
  defined_owner (Imported from name t) = says_owner (extern_mentions t) (extern_owner t)
  defined_owner (Func f) = refl
  defined_owner (Table t init) = both part_owner (says (ref_mentions t.element)) (map Constant (option_to_list init)) (says_owner (ref_mentions t.element) (heap_owner t.element.heap_type)) (constants_owner (option_to_list init))
  defined_owner (TableOf wide t es) = both part_owner (says (ref_mentions t)) (elements_parts es) (says_owner (ref_mentions t) (heap_owner t.heap_type)) (elements_owner es)
  defined_owner (Memory t) = refl
  defined_owner (MemoryOf wide page vs) = refl
  defined_owner (Global t init) = both part_owner (says (val_mentions t.val_type)) (Constant init ∷ []) (says_owner (val_mentions t.val_type) (val_owner t.val_type)) refl
  defined_owner (Tag u) = refl

  elem_mode_owner : (m : ElemMode N P) → list_all part_owner (elem_mode_parts m) ≡ true
  elem_mode_owner PassiveElem = refl
  elem_mode_owner DeclaredElem = refl
  elem_mode_owner (ActiveElem t offset) = both part_owner (says (refers_if Tables t)) (Constant offset ∷ []) (says_owner (refers_if Tables t) (if_owner Tables t)) refl

  data_mode_owner : (m : DataMode N P) → list_all part_owner (data_mode_parts m) ≡ true
  data_mode_owner PassiveData = refl
  data_mode_owner (ActiveData t offset) = both part_owner (says (refers_if Memories t)) (Constant offset ∷ []) (says_owner (refers_if Memories t) (if_owner Memories t)) refl

  field_owner : (f : Field N P) → list_all part_owner (parts f) ≡ true
  field_owner (TypeField t) = says_owner (type_mentions t) (type_owner t)
  field_owner (RecField r) = says_owner (flat_map type_mentions r.types) (all_of type_mentions type_owner r.types)
  field_owner (ImportField i) = says_owner (import_mentions i.items) (imports_owner i.items)
  field_owner (Define d) = defined_owner d.defined
  field_owner (ExportField e) = refl
  field_owner (StartField s) = refl
  field_owner (ElemField e) = both part_owner (elem_mode_parts e.mode) (elements_parts e.elements) (elem_mode_owner e.mode) (elements_owner e.elements)
  field_owner (DataField d) = data_mode_owner d.mode
  field_owner (CustomField x) = refl

  -- NAMES OF JOINED LISTS
  abbrev Told : List (Mention N P) → Type 0
  Told ms = list_all old (flat_map said_names ms) ≡ true

  told_front : (xs ys : List (Mention N P)) → Told (xs ++ ys) → Told xs
  told_front xs ys h = front old (flat_map said_names xs) (flat_map said_names ys) (ap (list_all old) (sym (flat_map-append said_names xs ys)) ∙ h)

  told_back : (xs ys : List (Mention N P)) → Told (xs ++ ys) → Told ys
  told_back xs ys h = back old (flat_map said_names xs) (flat_map said_names ys) (ap (list_all old) (sym (flat_map-append said_names xs ys)) ∙ h)

  abbrev Named_by : List (Mention N P) → Type 0
  Named_by ms = list_all old (flat_map use_names ms) ≡ true

  named_front : (xs ys : List (Mention N P)) → Named_by (xs ++ ys) → Named_by xs
  named_front xs ys h = front old (flat_map use_names xs) (flat_map use_names ys) (ap (list_all old) (sym (flat_map-append use_names xs ys)) ∙ h)

  named_back : (xs ys : List (Mention N P)) → Named_by (xs ++ ys) → Named_by ys
  named_back xs ys h = back old (flat_map use_names xs) (flat_map use_names ys) (ap (list_all old) (sym (flat_map-append use_names xs ys)) ∙ h)

  abbrev pub sig_old : Sig N P → Bool
  sig_old t = list_all old (flat_map said_names (sig_mentions t))

  -- TYPES ARE EQUAL by tests that agree on their indices
  module _ (new other : Reference N P → Reference N P → Bool) (same : (i j : Reference N P) → list_all old (reference_names i) ≡ true → list_all old (reference_names j) ≡ true → new i j ≡ other i j) where
    heap_equal : (g h : HeapType N P) → Told (heap_mentions g) → Told (heap_mentions h) → same_heap new g h ≡ same_heap other g h
    heap_equal (Abstract s a) (Abstract t b) x y = refl
    heap_equal (Abstract s a) (Concrete j) x y = refl
    heap_equal (Abstract s a) (Exact j) x y = refl
    heap_equal (Concrete i) (Abstract t b) x y = refl
    heap_equal (Concrete i) (Concrete j) x y = same i j (front old (reference_names i) [] x) (front old (reference_names j) [] y)
    heap_equal (Concrete i) (Exact j) x y = refl
    heap_equal (Exact i) (Abstract t b) x y = refl
    heap_equal (Exact i) (Concrete j) x y = refl
    heap_equal (Exact i) (Exact j) x y = same i j (front old (reference_names i) [] x) (front old (reference_names j) [] y)

    val_equal : (s t : ValType N P) → Told (val_mentions s) → Told (val_mentions t) → same_val new s t ≡ same_val other s t
    val_equal (Number a) (Number b) x y = refl
    val_equal (Number a) (Ref r) x y = refl
    val_equal (Ref r) (Number b) x y = refl
    val_equal (Ref r) (Ref s) x y = ap (λ b. same_flag r.nullable s.nullable && b) (heap_equal r.heap_type s.heap_type x y)

    each_equal : {A : Type 0} (g : A → List (Mention N P)) (f k : A → A → Bool) → ((a b : A) → Told (g a) → Told (g b) → f a b ≡ k a b) → (xs ys : List A) → Told (flat_map g xs) → Told (flat_map g ys) → pointwise f xs ys ≡ pointwise k xs ys
    each_equal g f k e [] [] x y = refl
    each_equal g f k e [] (b ∷ bs) x y = refl
    each_equal g f k e (a ∷ xs) [] x y = refl
    each_equal g f k e (a ∷ xs) (b ∷ bs) x y =
        two (λ p q. p && q) (e a b (told_front (g a) (flat_map g xs) x) (told_front (g b) (flat_map g bs) y)) (each_equal g f k e xs bs (told_back (g a) (flat_map g xs) x) (told_back (g b) (flat_map g bs) y))

    sig_equal : (s t : Sig N P) → sig_old s ≡ true → sig_old t ≡ true → same_sig new s t ≡ same_sig other s t
    sig_equal s t x y =
        two (λ p q. p && q)
        (each_equal (λ l. val_mentions l.val_type) (same_local new) (same_local other) (λ a b. val_equal a.val_type b.val_type) s.params t.params
        (told_front (local_mentions s.params) (flat_map val_mentions s.results) x) (told_front (local_mentions t.params) (flat_map val_mentions t.results) y))
        (each_equal val_mentions (same_val new) (same_val other) val_equal s.results t.results
        (told_back (local_mentions s.params) (flat_map val_mentions s.results) x) (told_back (local_mentions t.params) (flat_map val_mentions t.results) y))

-- A SCOPE with other index spaces, which agree on old names
abbrev pub respaced : {N P : Type 0} → (Space → names.Space N) → Scope N P → Scope N P
respaced spaces s = record { spaces = spaces; fields = s.fields; sig_of = s.sig_of; blocks = s.blocks }

-- the names that the items of a field bear
abbrev names_of_items : {N P : Type 0} → Field N P → List N
names_of_items f = flat_map (λ b. map (λ id. id.0) (option_to_list b.id)) (items f)

module _ {N P : Type 0} (eq : N → N → Bool) (old : N → Bool) where
  abbrev Agree : (Space → names.Space N) → Scope N P → Type 0
  Agree spaces s = (space : Space) (n : N) → old n ≡ true → (spaces space).look n ≡ (s.spaces space).look n

  -- and whose signatures say old names alone
  abbrev OldSigs : Scope N P → Type 0
  OldSigs s = (n : ℕ) (t : Sig N P) → s.sig_of n ≡ Some t → sig_old old t ≡ true

  labels_agree : (labels : names.Space N) (spaces : Space → names.Space N) (s : Scope N P) → Agree spaces s → (space : Space) (n : N) → old n ≡ true → (labels_or labels spaces space).look n ≡ (labels_or labels s.spaces space).look n
  labels_agree labels spaces s h Labels n e = refl
  labels_agree labels spaces s h Locals n e = h Locals n e
  labels_agree labels spaces s h Functions n e = h Functions n e
  labels_agree labels spaces s h Types n e = h Types n e
  labels_agree labels spaces s h Tables n e = h Tables n e
  labels_agree labels spaces s h Memories n e = h Memories n e
  labels_agree labels spaces s h Globals n e = h Globals n e
  labels_agree labels spaces s h Tags n e = h Tags n e
  labels_agree labels spaces s h Datas n e = h Datas n e
  labels_agree labels spaces s h Elems n e = h Elems n e
  labels_agree labels spaces s h Fields n e = h Fields n e

  locals_agree : (locals : names.Space N) (spaces : Space → names.Space N) (s : Scope N P) → Agree spaces s → (space : Space) (n : N) → old n ≡ true → (locals_or locals spaces space).look n ≡ (locals_or locals s.spaces space).look n
  locals_agree locals spaces s h Locals n e = refl
  locals_agree locals spaces s h Labels n e = h Labels n e
  locals_agree locals spaces s h Functions n e = h Functions n e
  locals_agree locals spaces s h Types n e = h Types n e
  locals_agree locals spaces s h Tables n e = h Tables n e
  locals_agree locals spaces s h Memories n e = h Memories n e
  locals_agree locals spaces s h Globals n e = h Globals n e
  locals_agree locals spaces s h Tags n e = h Tags n e
  locals_agree locals spaces s h Datas n e = h Datas n e
  locals_agree locals spaces s h Elems n e = h Elems n e
  locals_agree locals spaces s h Fields n e = h Fields n e

  module _ (spaces : Space → names.Space N) (s : Scope N P) (agree : Agree spaces s) where
    known_same : (kind : List ℕ) (space : Space) (i : Reference N P) → list_all old (reference_names i) ≡ true → names.known kind (spaces space) i ≡ names.known kind (s.spaces space) i
    known_same kind space (ByNumber n p) h = refl
    known_same kind space (ByName id) h = ap (λ o. record { place = id.1; complaint = Unknown kind id.0; holds = is_some o } ∷ []) (agree space id.0 (left (old id.0) true h))

    number_same : (space : Space) (i : Reference N P) → list_all old (reference_names i) ≡ true → number_of (spaces space) i ≡ number_of (s.spaces space) i
    number_same space (ByNumber n p) h = refl
    number_same space (ByName id) h = agree space id.0 (left (old id.0) true h)

    abbrev fields_by : Option ℕ → names.Space N
    fields_by o = elim o [ Some k ↦ s.fields k | None ↦ names.empty ]

    says_same : (m : Mention N P) → list_all old (said_names m) ≡ true → owner_old old m ≡ true → says_demands eq (respaced spaces s) m ≡ says_demands eq s m
    says_same (Refers space i) h e = known_same (space_word space) space i h
    says_same (Member t i) h e = ap (λ o. names.known (space_word Fields) (fields_by o) i) (number_same Types t e)
    says_same (Repeats id) h e = refl
    says_same (Uses u) h e = refl
    says_same (UsesInBlock u) h e = refl

    all_says : (ms : List (Mention N P)) → list_all old (flat_map said_names ms) ≡ true → list_all (owner_old old) ms ≡ true → flat_map (says_demands eq (respaced spaces s)) ms ≡ flat_map (says_demands eq s) ms
    all_says [] h e = refl
    all_says (m ∷ ms) h e =
        two (λ a b. a ++ b) (says_same m (front old (said_names m) (flat_map said_names ms) h) (left (owner_old old m) (list_all (owner_old old) ms) e))
        (all_says ms (back old (said_names m) (flat_map said_names ms) h) (right (owner_old old m) (list_all (owner_old old) ms) e))

    numbered_same : (i j : Reference N P) → list_all old (reference_names i) ≡ true → list_all old (reference_names j) ≡ true → same_numbered (respaced spaces s) i j ≡ same_numbered s i j
    numbered_same i j a b = two (λ x y. same_option nat_eq x y) (number_same Types i a) (number_same Types j b)

    agrees_same : (t : Sig N P) (o : Option (Sig N P)) → sig_old old t ≡ true → ((x : Sig N P) → o ≡ Some x → sig_old old x ≡ true) → agrees (respaced spaces s) t o ≡ agrees s t o
    agrees_same t None h k = refl
    agrees_same t (Some x) h k = sig_equal old (same_numbered (respaced spaces s)) (same_numbered s) numbered_same t x h (k x refl)

    module _ (sigs : OldSigs s) where
      sig_found : (o : Option ℕ) (x : Sig N P) → option_and_then s.sig_of o ≡ Some x → sig_old old x ≡ true
      sig_found None x e = elim (none-some x e) [ ]
      sig_found (Some n) x e = sigs n x e

      agreement_same : (i : Reference N P) (t : Sig N P) → list_all old (reference_names i) ≡ true → sig_old old t ≡ true → agreement (respaced spaces s) i t ≡ agreement s i t
      agreement_same i t h k =
          ap (λ b. record { place = place_of i; complaint = TypeMismatch; holds = b })
          (ap (λ o. agrees (respaced spaces s) t (option_and_then s.sig_of o)) (number_same Types i h)
          ∙ agrees_same t (option_and_then s.sig_of (number_of (s.spaces Types) i)) k (sig_found (number_of (s.spaces Types) i)))

      agreements_same : (i : Option (Reference N P)) (o : Option (Sig N P)) → Told old (use_mentions (record { index = i; inline = o })) → agreements (respaced spaces s) (record { index = i; inline = o }) ≡ agreements s (record { index = i; inline = o })
      agreements_same None o h = refl
      agreements_same (Some i) None h = refl
      agreements_same (Some i) (Some t) h =
          ap (λ d. d ∷ [])
          (agreement_same i t (front old (reference_names i) (flat_map said_names (sig_mentions t ++ [])) h)
          (told_front old (sig_mentions t) [] (back old (reference_names i) (flat_map said_names (sig_mentions t ++ [])) h)))

      use_same : (u : TypeUse N P) → Told old (use_mentions u) → use_demands eq (respaced spaces s) u ≡ use_demands eq s u
      use_same u h = two (λ a b. a ++ b) (all_says (use_mentions u) h (use_owner old u)) (agreements_same u.index u.inline h)

      mention_same : (m : Mention N P) → list_all old (use_names m) ≡ true → owner_old old m ≡ true → mention_demands eq (respaced spaces s) m ≡ mention_demands eq s m
      mention_same (Refers space i) h e = says_same (Refers space i) h e
      mention_same (Member t i) h e = says_same (Member t i) h e
      mention_same (Repeats id) h e = refl
      mention_same (Uses u) h e = use_same u h
      mention_same (UsesInBlock u) h e = use_same u h

      mentions_same : (ms : List (Mention N P)) → Named_by old ms → list_all (owner_old old) ms ≡ true → flat_map (mention_demands eq (respaced spaces s)) ms ≡ flat_map (mention_demands eq s) ms
      mentions_same [] h e = refl
      mentions_same (m ∷ ms) h e =
          two (λ a b. a ++ b) (mention_same m (front old (use_names m) (flat_map use_names ms) h) (left (owner_old old m) (list_all (owner_old old) ms) e))
          (mentions_same ms (back old (use_names m) (flat_map use_names ms) h) (right (owner_old old m) (list_all (owner_old old) ms) e))

  -- INSTRUCTIONS AND FUNCTIONS
  instrs_same : (spaces : Space → names.Space N) (s : Scope N P) → Agree spaces s → OldSigs s → (before is : List (Instruction N P)) → Named_by old (flat_map instr_mentions is) →
      instrs_demands eq (respaced spaces s) before is ≡ instrs_demands eq s before is
  instrs_same spaces s agree sigs before [] h = refl
  instrs_same spaces s agree sigs before (i ∷ is) h =
      two (λ a b. a ++ b)
      (mentions_same (labels_or (label_space eq before i) spaces) (scope_at eq s before i) (labels_agree (label_space eq before i) spaces s agree) sigs (instr_mentions i)
      (named_front old (instr_mentions i) (flat_map instr_mentions is) h) (instr_owner old i (named_front old (instr_mentions i) (flat_map instr_mentions is) h)))
      (instrs_same spaces s agree sigs (i ∷ before) is (named_back old (instr_mentions i) (flat_map instr_mentions is) h))

  module _ (spaces : Space → names.Space N) (s : Scope N P) (agree : Agree spaces s) (sigs : OldSigs s) where
    params_same : (i : Option (Reference N P)) (o : Option (Sig N P)) → Told old (use_mentions (record { index = i; inline = o })) → params_of (respaced spaces s) (record { index = i; inline = o }) ≡ params_of s (record { index = i; inline = o })
    params_same i (Some t) h = refl
    params_same None None h = refl
    params_same (Some i) None h = ap (λ o. map (λ (l : Local N P). None) (unwrap_or (option_and_then s.sig_of o) no_sig).params) (number_same spaces s agree Types i (front old (reference_names i) [] h))

    func_same : (f : Function N P) → Named_by old (part_mentions (Body f)) → func_demands eq (respaced spaces s) f ≡ func_demands eq s f
    func_same f h =
        let told : Told old (use_mentions f.type_use) = front old (flat_map said_names (use_mentions f.type_use)) (flat_map use_names (local_mentions f.locals ++ expr_mentions f.body)) h in
        let rest : Named_by old (local_mentions f.locals ++ expr_mentions f.body) = back old (flat_map said_names (use_mentions f.type_use)) (flat_map use_names (local_mentions f.locals ++ expr_mentions f.body)) h in
        let new_use = use_demands eq (respaced spaces s) f.type_use in
        let new_local = flat_map (mention_demands eq (respaced spaces s)) (local_mentions f.locals) in
        let ids = locals_of s f in
        ap (λ l. new_use ++ new_local ++ names.distinct eq (space_word Locals) l ++ instrs_demands eq (with_locals eq (respaced spaces s) l) [] f.body.instrs)
        (ap (λ l. l ++ map (λ (x : Local N P). x.id) f.locals) (params_same f.type_use.index f.type_use.inline told))
        ∙ two (λ a b. a ++ b)
        (two (λ a b. a ++ b ++ names.distinct eq (space_word Locals) ids) (use_same spaces s agree sigs f.type_use told)
        (mentions_same spaces s agree sigs (local_mentions f.locals) (named_front old (local_mentions f.locals) (expr_mentions f.body) rest) (all_of old (λ l. val_mentions l.val_type) (λ l. val_owner old l.val_type) f.locals)))
        (instrs_same (locals_or (listed eq ids) spaces) (with_locals eq s ids) (locals_agree (listed eq ids) spaces s agree) sigs [] f.body.instrs (named_back old (local_mentions f.locals) (expr_mentions f.body) rest))

    part_same : (x : Part N P) → Named_by old (part_mentions x) → part_owner old x ≡ true → part_demands eq (respaced spaces s) x ≡ part_demands eq s x
    part_same (Says m) h e = mention_same spaces s agree sigs m (front old (use_names m) [] h) e
    part_same (Constant x) h e = instrs_same spaces s agree sigs [] x.instrs h
    part_same (Body f) h e = func_same f h

    parts_same : (xs : List (Part N P)) → Named_by old (flat_map part_mentions xs) → list_all (part_owner old) xs ≡ true →
        flat_map (λ x. unmet (part_demands eq (respaced spaces s) x)) xs ≡ flat_map (λ x. unmet (part_demands eq s x)) xs
    parts_same [] h e = refl
    parts_same (x ∷ xs) h e =
        two (λ a b. a ++ b) (ap unmet (part_same x (named_front old (part_mentions x) (flat_map part_mentions xs) h) (left (part_owner old x) (list_all (part_owner old) xs) e)))
        (parts_same xs (named_back old (part_mentions x) (flat_map part_mentions xs) h) (right (part_owner old x) (list_all (part_owner old) xs) e))

    abbrev pub unmet_by : Scope N P → Field N P → List (Demand N P)
    unmet_by t f = flat_map (λ x. unmet (part_demands eq t x)) (parts f)

    fields_same : (fs : List (Field N P)) → list_all old (flat_map field_names fs) ≡ true → flat_map (unmet_by (respaced spaces s)) fs ≡ flat_map (unmet_by s) fs
    fields_same [] h = refl
    fields_same (f ∷ fs) h =
        two (λ a b. a ++ b) (parts_same (parts f) (back old (names_of_items f) (flat_map use_names (field_mentions f)) (front old (field_names f) (flat_map field_names fs) h)) (field_owner old f))
        (fields_same fs (back old (field_names f) (flat_map field_names fs) h))

-- SIGNATURES of types that are written or implied say old names alone
module _ {N P : Type 0} (old : N → Bool) where
  abbrev opt_old : Option (Sig N P) → Bool
  opt_old None = true
  opt_old (Some t) = sig_old old t

  inner_old : (t : InnerType N P) → Named_by old (inner_mentions t) → opt_old (func_sig t) ≡ true
  inner_old (FuncType s) h = ap (list_all old) (sym (sig_says use_names said_names (λ i. refl) s)) ∙ h
  inner_old (StructType fs) h = refl
  inner_old (ArrayType t) h = refl
  inner_old (ContType i) h = refl

  type_old : (t : TypeItem N P) → Named_by old (type_mentions t) → opt_old (func_sig t.definition.comp.inner) ≡ true
  type_old t h =
      inner_old t.definition.comp.inner (named_back old (refers_if Types t.definition.supertype ++ refers_if Types t.definition.describes ++ refers_if Types t.definition.descriptor) (inner_mentions t.definition.comp.inner) h)

  abbrev grouped : TypeItem N P → TypeItem N P × Bool
  grouped t = (t, true)

  group_old : (ts : List (TypeItem N P)) → Named_by old (flat_map type_mentions ts) → list_all opt_old (map sig_of_type (map grouped ts)) ≡ true
  group_old [] h = refl
  group_old (t ∷ ts) h = both_true (type_old t (named_front old (type_mentions t) (flat_map type_mentions ts) h)) (group_old ts (named_back old (type_mentions t) (flat_map type_mentions ts) h))

  unsaid : (ms : List (Mention N P)) → Named_by old (flat_map part_mentions (says ms)) → Named_by old ms
  unsaid ms h = ap (λ l. list_all old (flat_map use_names l)) (sym (said_parts ms)) ∙ h

  field_types_old : (f : Field N P) → Named_by old (field_mentions f) → list_all opt_old (map sig_of_type (written_types f)) ≡ true
  field_types_old (TypeField t) h = both_true (type_old t (unsaid (type_mentions t) h)) refl
  field_types_old (RecField r) h = group_old r.types (unsaid (flat_map type_mentions r.types) h)
  field_types_old (ImportField i) h = refl
  field_types_old (Define d) h = refl
  field_types_old (ExportField e) h = refl
  field_types_old (StartField s) h = refl
  field_types_old (ElemField e) h = refl
  field_types_old (DataField d) h = refl
  field_types_old (CustomField x) h = refl

  mentions_old : (f : Field N P) (fs : List (Field N P)) → list_all old (flat_map field_names (f ∷ fs)) ≡ true → Named_by old (field_mentions f)
  mentions_old f fs h = back old (names_of_items f) (flat_map use_names (field_mentions f)) (front old (field_names f) (flat_map field_names fs) h)

  written_old : (fs : List (Field N P)) → list_all old (flat_map field_names fs) ≡ true → list_all opt_old (map sig_of_type (flat_map written_types fs)) ≡ true
  written_old [] h = refl
  written_old (f ∷ fs) h =
      ap (list_all opt_old) (map-append sig_of_type (written_types f) (flat_map written_types fs))
      ∙ both opt_old (map sig_of_type (written_types f)) (map sig_of_type (flat_map written_types fs)) (field_types_old f (mentions_old f fs h)) (written_old fs (back old (field_names f) (flat_map field_names fs) h))

  -- implied ones
  use_old : (i : Option (Reference N P)) (o : Option (Sig N P)) → Told old (use_mentions (record { index = i; inline = o })) → list_all (sig_old old) (sig_of_use (record { index = i; inline = o })) ≡ true
  use_old (Some j) o h = refl
  use_old None None h = refl
  use_old None (Some t) h = both_true (told_front old (sig_mentions t) [] h) refl

  mention_old : (m : Mention N P) → list_all old (use_names m) ≡ true → list_all (sig_old old) (sig_of_mention m) ≡ true
  mention_old (Refers space i) h = refl
  mention_old (Member t i) h = refl
  mention_old (Repeats id) h = refl
  mention_old (Uses u) h = use_old u.index u.inline h
  mention_old (UsesInBlock u) h = filtered (sig_old old) (λ t. not (is_short t)) (sig_of_use u) (use_old u.index u.inline h)

  all_mentions_old : (ms : List (Mention N P)) → Named_by old ms → list_all (sig_old old) (flat_map sig_of_mention ms) ≡ true
  all_mentions_old [] h = refl
  all_mentions_old (m ∷ ms) h =
      both (sig_old old) (sig_of_mention m) (flat_map sig_of_mention ms) (mention_old m (front old (use_names m) (flat_map use_names ms) h)) (all_mentions_old ms (back old (use_names m) (flat_map use_names ms) h))

  used_old : (fs : List (Field N P)) → list_all old (flat_map field_names fs) ≡ true → list_all (at_place (sig_old old)) (flat_map used_sigs fs) ≡ true
  used_old [] h = refl
  used_old (f ∷ fs) h =
      both (at_place (sig_old old)) (used_sigs f) (flat_map used_sigs fs)
      (unplaced (sig_old old) (field_place f) (flat_map sig_of_mention (field_mentions f)) ∙ all_mentions_old (field_mentions f) (mentions_old f fs h))
      (used_old fs (back old (field_names f) (flat_map field_names fs) h))

  unnamed_old : (t : Sig N P) → sig_old old (unnamed t) ≡ sig_old old t
  unnamed_old t = ap (λ ms. list_all old (flat_map said_names (ms ++ flat_map val_mentions t.results))) (unnamed_mentions t.params)

  module _ (eq : N → N → Bool) where
    as_types : (us : List (P × Sig N P)) → list_all opt_old (map implied_sig us) ≡ list_all (at_place (sig_old old)) us
    as_types [] = refl
    as_types (u ∷ us) = ap (λ b. sig_old old u.1 && b) (as_types us)

    all_sigs_old : (fs : List (Field N P)) → list_all old (flat_map field_names fs) ≡ true → list_all opt_old (map sig_of_type (flat_map written_types fs) ++ implied_sigs eq fs) ≡ true
    all_sigs_old fs h =
        both opt_old (map sig_of_type (flat_map written_types fs)) (implied_sigs eq fs) (written_old fs h)
        (as_types (implied eq fs) ∙ implied_pass (sig_old old) eq unnamed_old (filter_map plain_sig (flat_map written_types fs)) (flat_map used_sigs fs) (used_old fs h))

    found_old : (l : List (Option (Sig N P))) (n : ℕ) (t : Sig N P) → list_all opt_old l ≡ true → option_and_then (λ x. x) (slice_get l n) ≡ Some t → sig_old old t ≡ true
    found_old [] n t h e = elim (none-some t e) [ ]
    found_old (None ∷ l) zero t h e = elim (none-some t e) [ ]
    found_old (Some x ∷ l) zero t h e = ap (sig_old old) (sym (same_Some x t e)) ∙ left (sig_old old x) (list_all opt_old l) h
    found_old (o ∷ l) (suc n) t h e = found_old l n t (right (opt_old o) (list_all opt_old l) h) e

    pub sigs_old : (fs : List (Field N P)) → list_all old (flat_map field_names fs) ≡ true → (n : ℕ) (t : Sig N P) → sig_at eq fs n ≡ Some t → sig_old old t ≡ true
    sigs_old fs h n t e = found_old (map sig_of_type (flat_map written_types fs) ++ implied_sigs eq fs) n t (all_sigs_old fs h) e

-- ALL DEMANDS
unmet_each : {N P X : Type 0} (h : X → List (Demand N P)) (xs : List X) → unmet (flat_map h xs) ≡ flat_map (λ x. unmet (h x)) xs
unmet_each h [] = refl
unmet_each h (x ∷ xs) = filter-append isnt_met (h x) (flat_map h xs) ∙ ap (λ l. unmet (h x) ++ l) (unmet_each h xs)

-- the spaces of a module
abbrev is_module : Space → Bool
is_module Labels = false
is_module Locals = false
is_module Fields = false
is_module s = true

module_kind : (k : exports.ExportKind) → is_module (space_of_kind k) ≡ true
module_kind exports.Func = refl
module_kind exports.Table = refl
module_kind exports.Memory = refl
module_kind exports.Global = refl
module_kind exports.Tag = refl

module _ {N P : Type 0} (eq : N → N → Bool) (self : (n : N) → eq n n ≡ true) (sound : (m n : N) → eq m n ≡ true → m ≡ n) (naming : ℕ → N) (fs : List (Field N P)) (fresh : is_fresh eq naming fs ≡ true) where
  abbrev made : List N
  made = taken_from naming 0 fs

  abbrev old : N → Bool
  old = unlike eq made

  abbrev out : List (Field N P)
  out = written_out naming fs

  names_old : list_all old (flat_map field_names fs) ≡ true
  names_old = all_unlike eq made (flat_map field_names fs) (right (are_distinct eq made) (are_new eq made (flat_map field_names fs)) fresh)

  item_names_old : (gs : List (Field N P)) → list_all old (flat_map field_names gs) ≡ true → list_all old (flat_map (λ f. flat_map (λ b. map (λ id. id.0) (option_to_list b.id)) (items f)) gs) ≡ true
  item_names_old [] h = refl
  item_names_old (g ∷ gs) h =
      both old (names_of_items g) (flat_map names_of_items gs) (front old (names_of_items g) (flat_map use_names (field_mentions g)) (front old (field_names g) (flat_map field_names gs) h))
      (item_names_old gs (back old (field_names g) (flat_map field_names gs) h))

  -- the scope
  abbrev scope_out : Scope N P
  scope_out = respaced (index_space eq out) (scope_of eq fs)

  scope_same : scope_of eq out ≡ scope_out
  scope_same =
      let fields : (λ t. listed eq (fields_at out t)) ≡ (λ t. listed eq (fields_at fs t)) = fun_ext (λ t. ap (λ ids. listed eq ids) (fields_written naming fs t)) in
      let sig_of : sig_at eq out ≡ sig_at eq fs = fun_ext (λ n. sig_written eq naming fs n) in
      ap (λ v. record { spaces = index_space eq out; fields = v; sig_of = sig_at eq out; blocks = [] }) fields
      ∙ ap (λ v. record { spaces = index_space eq out; fields = λ t. listed eq (fields_at fs t); sig_of = v; blocks = [] }) sig_of

  -- the names that are made are those of items
  abbrev Found : Space → N → Type 0
  Found s o = is_module s ≡ true → is_some (denotes eq out s o) ≡ true

  found_item : (s : Space) (o : N) → list_any (bears eq o) (own_names s (flat_map items out)) ≡ true → Found s o
  found_item Labels o h e = elim (false≢true e) [ ]
  found_item Locals o h e = elim (false≢true e) [ ]
  found_item Fields o h e = elim (false≢true e) [ ]
  found_item Functions o h e = denoted_found eq (space_word Functions) o (own_names Functions (flat_map items out)) h
  found_item Types o h e = denoted_found eq (space_word Types) o (own_names Types (flat_map items out)) h
  found_item Tables o h e = denoted_found eq (space_word Tables) o (own_names Tables (flat_map items out)) h
  found_item Memories o h e = denoted_found eq (space_word Memories) o (own_names Memories (flat_map items out)) h
  found_item Globals o h e = denoted_found eq (space_word Globals) o (own_names Globals (flat_map items out)) h
  found_item Tags o h e = denoted_found eq (space_word Tags) o (own_names Tags (flat_map items out)) h
  found_item Datas o h e = denoted_found eq (space_word Datas) o (own_names Datas (flat_map items out)) h
  found_item Elems o h e = denoted_found eq (space_word Elems) o (own_names Elems (flat_map items out)) h

  abbrev asked : Part N P → List (Demand N P)
  asked x = unmet (part_demands eq scope_out x)

  zero_quiet : (wide : Bool) → asked (Constant (zero_offset wide)) ≡ []
  zero_quiet true = refl
  zero_quiet false = refl

  own_quiet : (n : N) (f : Field N P) → OwnFound eq Found n f → OwnQuiet asked zero_quiet n f
  own_quiet n (Define d) h = λ e.
      met_more (record { place = (name_or n d).1; complaint = Unknown (space_word (space_of_kind (kind_of d.defined))) (name_or n d).0; holds = is_some (denotes eq out (space_of_kind (kind_of d.defined)) (name_or n d).0) })
      (h e (module_kind (kind_of d.defined)))
  own_quiet n (TypeField t) h = tt
  own_quiet n (RecField r) h = tt
  own_quiet n (ImportField i) h = tt
  own_quiet n (ExportField e) h = tt
  own_quiet n (StartField x) h = tt
  own_quiet n (ElemField e) h = tt
  own_quiet n (DataField d) h = tt
  own_quiet n (CustomField x) h = tt

  abbrev asked_by : Field N P → List (Demand N P)
  asked_by f = flat_map asked (parts f)

  all_quiet : (k : ℕ) (gs : List (Field N P)) → AllFound eq Found naming k gs → flat_map asked_by (written_from naming k gs) ≡ flat_map asked_by gs
  all_quiet k [] h = refl
  all_quiet k (g ∷ gs) h =
      flat_map-append asked_by (field_out (naming k) g) (written_from naming (suc k) gs)
      ∙ two (λ a b. a ++ b) (parts_out asked zero_quiet (naming k) g (own_quiet (naming k) g h.0)) (all_quiet (suc k) gs h.1)

  unmet_fields : (s : Scope N P) (gs : List (Field N P)) → unmet (flat_map (field_demands eq s) gs) ≡ flat_map (λ f. flat_map (λ x. unmet (part_demands eq s x)) (parts f)) gs
  unmet_fields s [] = refl
  unmet_fields s (g ∷ gs) =
      filter-append isnt_met (field_demands eq s g) (flat_map (field_demands eq s) gs)
      ∙ two (λ a b. a ++ b) (unmet_each (part_demands eq s) (parts g)) (unmet_fields s gs)

  fields_alike : Alike (flat_map (field_demands eq (scope_of eq out)) out) (flat_map (field_demands eq (scope_of eq fs)) fs)
  fields_alike =
      ap (λ s. unmet (flat_map (field_demands eq s) out)) scope_same
      ∙ unmet_fields scope_out out
      ∙ all_quiet 0 fs (all_found eq self Found naming 0 fs found_item)
      ∙ fields_same eq old (index_space eq out) (scope_of eq fs) (λ s n h. denotes_written eq naming fs s n h) (sigs_old old eq fs names_old) fs names_old
      ∙ sym (unmet_fields (scope_of eq fs) fs)

  pub written_demands : first_unmet is_met (demands eq out) ≡ first_unmet is_met (demands eq fs)
  written_demands =
      same_first (demands eq out) (demands eq fs)
      (alike_joined (order_demands out ++ item_demands eq (flat_map items out)) (flat_map (field_demands eq (scope_of eq out)) out) (order_demands fs ++ item_demands eq (flat_map items fs)) (flat_map (field_demands eq (scope_of eq fs)) fs)
      (alike_joined (order_demands out) (item_demands eq (flat_map items out)) (order_demands fs) (item_demands eq (flat_map items fs))
      (ap unmet (order_written naming fs))
      (items_demanded eq self sound made naming fs (λ o h. h) (left (are_distinct eq made) (are_new eq made (flat_map field_names fs)) fresh) (item_names_old fs names_old)))
      fields_alike)
