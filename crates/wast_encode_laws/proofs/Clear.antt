-- Where a field has no forms, the signatures that its uses write have none.
use Rattle.std.proofs.Common.{◌≡◌, ℕ, Bool, true, List, [], ◌∷◌, ◌++◌, map, Option, Some, None, refl, ◌∙◌, ap}
use Rattle.std.specs.Prelude.{not, option_to_list}
use Rattle.std.specs.List.{flat_map, list_all}
use Rattle.std.specs.Cmp.Derive.{both_true}
use Rattle.std.proofs.lemmas.Bool.{false≢true}
use Rattle.std.proofs.lemmas.Grind.{flat_map-append}
use Rattle.wasm_encoder_base.specs.Table.{OperandSyntax, Space, Labels, Functions, Types, Tables, Memories, Fields}
use Rattle.wast_parser.specs.Identifiers.{Named, Reference}
use Rattle.wast_value_types.specs.ValueTree.{RefType, ValType, Number, Ref, StorageType, Packed, Value}
use Rattle.wast_signatures.specs.TypeTree.{Local, Sig, InnerType, FuncType, StructType, ArrayType, ContType, StructField, TypeItem, TypeUse}
use Rattle.wast_operands.specs.OperandTree.{MemArgTarget, Handle, OnLabel, OnSwitch}
use Rattle.wast_operands.specs.OperandTree as operand
use Rattle.wast_typed_operands.specs.TypedTree.{Catch, CatchTag, CatchTagRef, CatchAll, CatchAllRef}
use Rattle.wast_core_instr.specs.InstructionTree.{Operands, Instruction}
use Rattle.wast_core_instr.specs.InstructionTree as instr
use Rattle.wast_imports.specs.ImportTree.{ExternType, OfFunc, OfExactFunc, OfTable, OfMemory, OfGlobal, OfTag, Item, ImportItems, Single, Group1, Group2}
use Rattle.wast_module_fields.specs.FieldTree.{Expr, Function, Elements, Indices, Expressions, Defined, Imported, Func, Table, TableOf, Memory, MemoryOf, Global, Tag, ElemMode, PassiveElem, DeclaredElem, ActiveElem, DataMode, PassiveData, ActiveData, Field, TypeField, RecField, ImportField, Define, ExportField, StartField, ElemField, DataField, CustomField}
use Rattle.wast_meaning.specs.Written.{has_any}
use Rattle.wast_meaning.specs.Mentions.{Mention, Refers, Member, Uses, UsesInBlock, Repeats, Part, Constant, Body, first_space, second_space, syntax_of, second_mention, catch_mentions, handle_mentions, target_mention, operand_mentions, instr_mentions, expr_mentions, val_mentions, ref_mentions, storage_mentions, local_mentions, inner_mentions, type_mentions, refers_if, extern_mentions, import_mentions, says, elements_parts, defined_parts, elem_mode_parts, data_mode_parts, part_mentions, field_mentions}
use Rattle.wast_meaning.specs.Implied.{is_short, sig_of_use, sig_of_mention}
use Rattle.wast_meaning.proofs.Settled.{left, right, front, back}
use Rattle.wast_meaning.proofs.SettledFields.{said_parts}
use Rattle.wast_conversions.specs.Covered.{val_forms, ref_forms, sig_forms, inline_forms, use_forms, table_forms, global_forms, extern_forms, operand_forms, instr_forms, instrs_forms}
use Rattle.wast_conversions.proofs.Empty as empty
use Rattle.wast_conversions.proofs.Trees.{covered_operands}
use Rattle.wast_meant.specs.Covered.{data_forms, expr_forms, elements_forms, defined_forms, import_forms, elem_mode_forms, data_mode_forms, field_forms}
use Rattle.wast_resolve_laws.proofs.Taking.{both, heap_holds, vals_hold, sig_holds}
use Rattle.wast_encode_laws.specs.Orderings.{are_indices, is_ordered, all_instrs, elements_instrs, defined_instrs, elem_mode_instrs, data_mode_instrs, field_instrs}
use Rattle.wast_encode_laws.proofs.Lists.{each_holds, filter_holds, is_none_left}

module _ {N P : Type 0} where
  -- a signature without forms, and a use whose signature has none
  abbrev pub sig_clear : Sig N P → Bool
  sig_clear s = not (has_any (sig_forms s))

  abbrev pub use_clear : Mention N P → Bool
  use_clear (Uses u) = not (has_any (use_forms u))
  use_clear (UsesInBlock u) = not (has_any (use_forms u))
  use_clear _ = true

  of_use : (o : Option (Reference N P)) (s : Option (Sig N P)) → not (has_any (inline_forms s)) ≡ true → list_all sig_clear (sig_of_use (record { index = o; inline = s })) ≡ true
  of_use (Some i) s e = refl
  of_use None None e = refl
  of_use None (Some s) e = both_true e refl

  of_mention : (m : Mention N P) → use_clear m ≡ true → list_all sig_clear (sig_of_mention m) ≡ true
  of_mention (Refers s i) e = refl
  of_mention (Member t i) e = refl
  of_mention (Repeats id) e = refl
  of_mention (Uses u) e = of_use u.index u.inline e
  of_mention (UsesInBlock u) e = filter_holds sig_clear (λ s. not (is_short s)) (sig_of_use u) (of_use u.index u.inline e)

  -- what uses imply
  pub sigs_clear : (ms : List (Mention N P)) → list_all use_clear ms ≡ true → list_all sig_clear (flat_map sig_of_mention ms) ≡ true
  sigs_clear [] e = refl
  sigs_clear (m ∷ ms) e =
      both sig_clear (sig_of_mention m) (flat_map sig_of_mention ms) (of_mention m (left (use_clear m) (list_all use_clear ms) e)) (sigs_clear ms (right (use_clear m) (list_all use_clear ms) e))

module _ {N P : Type 0} where
  abbrev Clear : List (Mention N P) → Type 0
  Clear ms = list_all use_clear ms ≡ true

  -- INDICES AND TYPES are no uses
  if_clear : (s : Space) (o : Option (Reference N P)) → Clear (refers_if s o)
  if_clear s None = refl
  if_clear s (Some i) = refl

  refers_clear : (s : Space) (is : List (Reference N P)) → Clear (map (Refers s) is)
  refers_clear s [] = refl
  refers_clear s (i ∷ is) = refers_clear s is

  ref_clear : (r : RefType N P) → Clear (ref_mentions r)
  ref_clear r = heap_holds use_clear (λ i. refl) r.heap_type

  val_clear : (t : ValType N P) → Clear (val_mentions t)
  val_clear (Number t) = refl
  val_clear (Ref r) = ref_clear r

  storage_clear : (t : StorageType N P) → Clear (storage_mentions t)
  storage_clear (Packed t) = refl
  storage_clear (Value t) = val_clear t

  locals_clear : (ls : List (Local N P)) → Clear (local_mentions ls)
  locals_clear ls = each_holds use_clear (λ (l : Local N P). val_mentions l.val_type) (λ l. val_clear l.val_type) ls

  inner_clear : (t : InnerType N P) → Clear (inner_mentions t)
  inner_clear (FuncType s) = sig_holds use_clear (λ i. refl) s
  inner_clear (StructType fs) = each_holds use_clear (λ (f : StructField N P). storage_mentions f.field_type.storage) (λ f. storage_clear f.field_type.storage) fs
  inner_clear (ArrayType t) = storage_clear t.storage
  inner_clear (ContType i) = refl

  type_clear : (t : TypeItem N P) → Clear (type_mentions t)
  type_clear t =
      let d = t.definition in
      let supers = refers_if Types d.supertype in
      let described = refers_if Types d.describes in
      let descriptors = refers_if Types d.descriptor in
      both use_clear (supers ++ described ++ descriptors) (inner_mentions d.comp.inner)
      (both use_clear (supers ++ described) descriptors (both use_clear supers described (if_clear Types d.supertype) (if_clear Types d.describes)) (if_clear Types d.descriptor))
      (inner_clear d.comp.inner)

  -- INSTRUCTIONS
  catch_clear : (x : Catch N P) → Clear (catch_mentions x)
  catch_clear (CatchTag t l) = refl
  catch_clear (CatchTagRef t l) = refl
  catch_clear (CatchAll l) = refl
  catch_clear (CatchAllRef l) = refl

  handle_clear : (x : Handle N P) → Clear (handle_mentions x)
  handle_clear (OnLabel t l) = refl
  handle_clear (OnSwitch t) = refl

  second_clear : (s : Space) (i j : Reference N P) → Clear (second_mention s i j ∷ [])
  second_clear Fields i j = refl
  second_clear s i j = refl

  both_clear : (s t : Space) (p : Option (Reference N P × Reference N P)) → Clear (flat_map (λ (ij : Reference N P × Reference N P). Refers s ij.0 ∷ Refers t ij.1 ∷ []) (option_to_list p))
  both_clear s t None = refl
  both_clear s t (Some p) = refl

  target_clear : (o : Option (MemArgTarget N P)) → Clear (map target_mention (option_to_list o))
  target_clear None = refl
  target_clear (Some (operand.Memory i)) = refl
  target_clear (Some (operand.Array i)) = refl

  select_clear : (ts : Option (List (ValType N P))) → Clear (flat_map (λ (vs : List (ValType N P)). flat_map val_mentions vs) (option_to_list ts))
  select_clear None = refl
  select_clear (Some ts) = both use_clear (flat_map val_mentions ts) [] (vals_hold use_clear (λ i. refl) ts) refl

  label_clear : (o : Option (Named N P)) → Clear (map Repeats (option_to_list o))
  label_clear None = refl
  label_clear (Some id) = refl

  -- indices alone
  indices_clear : (o : OperandSyntax) (x : Operands N P) → are_indices x ≡ true → Clear (operand_mentions o x)
  indices_clear o instr.NoOperands a = refl
  indices_clear o (instr.One i) a = refl
  indices_clear o (instr.Two i j) a = second_clear (second_space o) i j
  indices_clear o (instr.Optional i) a = if_clear (first_space o) i
  indices_clear o _ a = elim (false≢true a) [ ]

  operands_clear : (o : OperandSyntax) (x : Operands N P) → is_ordered x ≡ true → operand_forms x ≡ [] → Clear (operand_mentions o x)
  operands_clear o instr.NoOperands a h = refl
  operands_clear o (instr.Label id) a h = label_clear id
  operands_clear o (instr.Block b) a h = both_true (is_none_left (use_forms b.type_use) h) refl
  operands_clear o (instr.TryTable t) a h = both_true (is_none_left (use_forms t.block.type_use) h) (each_holds use_clear catch_mentions catch_clear t.catches)
  operands_clear o (instr.One i) a h = refl
  operands_clear o (instr.Two i j) a h = second_clear (second_space o) i j
  operands_clear o (instr.Counted i n) a h = refl
  operands_clear o (instr.LabelTable is i) a h = both use_clear (map (Refers Labels) is) (Refers Labels i ∷ []) (refers_clear Labels is) refl
  operands_clear o (instr.Indirect x) a h = both use_clear (refers_if Tables x.table) (Uses x.type_use ∷ []) (if_clear Tables x.table) (both_true (is_none_left (use_forms x.type_use) h) refl)
  operands_clear o (instr.Optional i) a h = if_clear (first_space o) i
  operands_clear o (instr.OptionalTwo p) a h = both_clear (first_space o) (second_space o) p
  operands_clear o (instr.OptionalThen i j) a h = both use_clear (refers_if (first_space o) i) (Refers (second_space o) j ∷ []) (if_clear (first_space o) i) refl
  operands_clear o (instr.Heap x) a h = heap_holds use_clear (λ i. refl) x
  operands_clear o (instr.Ref r) a h = ref_clear r
  operands_clear o (instr.Cast x) a h = both use_clear (ref_mentions x.source) (ref_mentions x.target) (ref_clear x.source) (ref_clear x.target)
  operands_clear o (instr.Integer z) a h = refl
  operands_clear o (instr.Float text) a h = refl
  operands_clear o (instr.Lanes v) a h = refl
  operands_clear o (instr.Types ts) a h = select_clear ts
  operands_clear o (instr.Lane n) a h = refl
  operands_clear o (instr.Shuffle ns) a h = refl
  operands_clear o (instr.Memory m) a h = target_clear m.target
  operands_clear o (instr.MemoryLane m n) a h = target_clear m.target
  operands_clear o (instr.Fence ordering) a h = refl
  operands_clear o (instr.Ordered ordering x) a h = indices_clear o x a
  operands_clear o (instr.Resume i hs) a h = each_holds use_clear handle_mentions handle_clear hs
  operands_clear o (instr.ResumeThrow i t hs) a h = each_holds use_clear handle_mentions handle_clear hs

  abbrev instr_ordered : Instruction N P → Bool
  instr_ordered i = is_ordered i.operands

  abbrev Ordered : List (Instruction N P) → Type 0
  Ordered is = list_all instr_ordered is ≡ true

  instrs_clear : (is : List (Instruction N P)) → Ordered is → instrs_forms is ≡ [] → Clear (flat_map instr_mentions is)
  instrs_clear [] a h = refl
  instrs_clear (i ∷ is) a h =
      both use_clear (instr_mentions i) (flat_map instr_mentions is)
      (operands_clear (syntax_of i.head) i.operands (left (instr_ordered i) (list_all instr_ordered is) a) (covered_operands i.head (operand_forms i.operands) (empty.front (instr_forms i) (instrs_forms is) h)))
      (instrs_clear is (right (instr_ordered i) (list_all instr_ordered is) a) (empty.back (instr_forms i) (instrs_forms is) h))

-- FIELDS, part by part
module _ {N P : Type 0} where
  abbrev PartsClear : List (Part N P) → Type 0
  PartsClear ps = list_all use_clear (flat_map part_mentions ps) ≡ true

  said : (ms : List (Mention N P)) → Clear ms → PartsClear (says ms)
  said ms e = ap (list_all use_clear) (said_parts ms) ∙ e

  joined : (ps qs : List (Part N P)) → PartsClear ps → PartsClear qs → PartsClear (ps ++ qs)
  joined ps qs a b = ap (list_all use_clear) (flat_map-append part_mentions ps qs) ∙ both use_clear (flat_map part_mentions ps) (flat_map part_mentions qs) a b

  -- what a field says itself, then constant expressions
  said_first : (ms : List (Mention N P)) (ps : List (Part N P)) → Clear ms → PartsClear ps → PartsClear (says ms ++ ps)
  said_first ms ps a b = joined (says ms) ps (said ms a) b

  constant_clear : (e : Expr N P) → Ordered e.instrs → expr_forms e ≡ [] → PartsClear (Constant e ∷ [])
  constant_clear e a h = both use_clear (expr_mentions e) [] (instrs_clear e.instrs a h) refl

  constants_clear : (es : List (Expr N P)) → Ordered (all_instrs es) → flat_map expr_forms es ≡ [] → PartsClear (map Constant es)
  constants_clear [] a h = refl
  constants_clear (e ∷ es) a h =
      both use_clear (expr_mentions e) (flat_map part_mentions (map Constant es))
      (instrs_clear e.instrs (front instr_ordered e.instrs (all_instrs es) a) (empty.front (expr_forms e) (flat_map expr_forms es) h))
      (constants_clear es (back instr_ordered e.instrs (all_instrs es) a) (empty.back (expr_forms e) (flat_map expr_forms es) h))

  func_clear : (f : Function N P) → Ordered f.body.instrs → defined_forms (Func f) ≡ [] → PartsClear (Body f ∷ [])
  func_clear f a h =
      let use_part = use_forms f.type_use in
      let local_part = flat_map (λ (l : Local N P). val_forms l.val_type) f.locals in
      let before_body = empty.front (use_part ++ local_part) (expr_forms f.body) h in
      both use_clear (Uses f.type_use ∷ local_mentions f.locals ++ expr_mentions f.body) []
      (both_true (is_none_left use_part (empty.front use_part local_part before_body))
      (both use_clear (local_mentions f.locals) (expr_mentions f.body) (locals_clear f.locals) (instrs_clear f.body.instrs a (empty.back (use_part ++ local_part) (expr_forms f.body) h)))) refl

  use_here : (u : TypeUse N P) → use_forms u ≡ [] → Clear (Uses u ∷ [])
  use_here u h = both_true (is_none_left (use_forms u) h) refl

  extern_clear : (t : ExternType N P) → extern_forms t ≡ [] → Clear (extern_mentions t)
  extern_clear (OfFunc u) h = use_here u h
  extern_clear (OfExactFunc u) h = cc
  extern_clear (OfTable t) h = ref_clear t.element
  extern_clear (OfMemory t) h = refl
  extern_clear (OfGlobal t) h = val_clear t.val_type
  extern_clear (OfTag u) h = use_here u h

  members_clear : (is : List (List ℕ × Item N P)) → import_forms (Group1 is) ≡ [] → Clear (import_mentions (Group1 is))
  members_clear [] h = refl
  members_clear (i ∷ is) h =
      both use_clear (extern_mentions i.1.extern_type) (import_mentions (Group1 is))
      (extern_clear i.1.extern_type (empty.front (extern_forms i.1.extern_type) (import_forms (Group1 is)) h)) (members_clear is (empty.back (extern_forms i.1.extern_type) (import_forms (Group1 is)) h))

  imports_clear : (is : ImportItems N P) → import_forms is ≡ [] → Clear (import_mentions is)
  imports_clear (Single name i) h = extern_clear i.extern_type h
  imports_clear (Group1 is) h = members_clear is h
  imports_clear (Group2 names i) h = extern_clear i.extern_type h

  elements_clear : (es : Elements N P) → Ordered (elements_instrs es) → elements_forms es ≡ [] → PartsClear (elements_parts es)
  elements_clear (Indices is) a h = said (map (Refers Functions) is) (refers_clear Functions is)
  elements_clear (Expressions t es) a h = said_first (ref_mentions t) (map Constant es) (ref_clear t) (constants_clear es a (empty.back (ref_forms t) (flat_map expr_forms es) h))

  defined_clear : (d : Defined N P) → Ordered (defined_instrs d) → defined_forms d ≡ [] → PartsClear (defined_parts d)
  defined_clear (Imported from name t) a h = said (extern_mentions t) (extern_clear t h)
  defined_clear (Func f) a h = func_clear f a h
  defined_clear (Table t init) a h =
      said_first (ref_mentions t.element) (map Constant (option_to_list init)) (ref_clear t.element) (constants_clear (option_to_list init) a (empty.back (table_forms t) (flat_map expr_forms (option_to_list init)) h))
  defined_clear (TableOf wide t es) a h = said_first (ref_mentions t) (elements_parts es) (ref_clear t) (elements_clear es a (empty.back (ref_forms t) (elements_forms es) h))
  defined_clear (Memory t) a h = refl
  defined_clear (MemoryOf wide page vs) a h = refl
  defined_clear (Global t init) a h =
      said_first (val_mentions t.val_type) (Constant init ∷ []) (val_clear t.val_type) (constant_clear init a (empty.back (global_forms t) (expr_forms init) h))
  defined_clear (Tag u) a h = use_here u h

  elem_mode_clear : (m : ElemMode N P) → Ordered (elem_mode_instrs m) → elem_mode_forms m ≡ [] → PartsClear (elem_mode_parts m)
  elem_mode_clear PassiveElem a h = refl
  elem_mode_clear DeclaredElem a h = refl
  elem_mode_clear (ActiveElem t offset) a h = said_first (refers_if Tables t) (Constant offset ∷ []) (if_clear Tables t) (constant_clear offset a h)

  data_mode_clear : (m : DataMode N P) → Ordered (data_mode_instrs m) → data_mode_forms m ≡ [] → PartsClear (data_mode_parts m)
  data_mode_clear PassiveData a h = refl
  data_mode_clear (ActiveData t offset) a h = said_first (refers_if Memories t) (Constant offset ∷ []) (if_clear Memories t) (constant_clear offset a h)

  pub field_clear : (f : Field N P) → Ordered (field_instrs f) → field_forms f ≡ [] → list_all use_clear (field_mentions f) ≡ true
  field_clear (TypeField t) a h = said (type_mentions t) (type_clear t)
  field_clear (RecField r) a h = said (flat_map type_mentions r.types) (each_holds use_clear type_mentions type_clear r.types)
  field_clear (ImportField i) a h = said (import_mentions i.items) (imports_clear i.items h)
  field_clear (Define d) a h = defined_clear d.defined a h
  field_clear (ExportField e) a h = refl
  field_clear (StartField s) a h = refl
  field_clear (ElemField e) a h =
      joined (elem_mode_parts e.mode) (elements_parts e.elements)
      (elem_mode_clear e.mode (front instr_ordered (elem_mode_instrs e.mode) (elements_instrs e.elements) a) (empty.front (elem_mode_forms e.mode) (elements_forms e.elements) h))
      (elements_clear e.elements (back instr_ordered (elem_mode_instrs e.mode) (elements_instrs e.elements) a) (empty.back (elem_mode_forms e.mode) (elements_forms e.elements) h))
  field_clear (DataField d) a h = data_mode_clear d.mode a (empty.front (data_mode_forms d.mode) (flat_map data_forms d.values) h)
  field_clear (CustomField c) a h = refl
