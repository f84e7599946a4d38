-- Settled fields in which nothing stands inline are resolved.
use Rattle.std.proofs.Common.{◌≡◌, ℕ, ◌≤◌, Bool, true, List, [], ◌∷◌, ◌++◌, length, map, All, Option, Some, None, is_some, refl, sym, ◌∙◌, ap, arith}
use Rattle.std.specs.Prelude.{◌&&◌, ◌||◌, not, nat_eq, nat_le, unwrap_or, option_to_list}
use Rattle.std.specs.List.{flat_map, list_all}
use Rattle.std.proofs.lemmas.Bool.{false≢true, eqb-true, leb-true}
use Rattle.std.proofs.lemmas.List.{nil_from_length}
use Rattle.std.proofs.lemmas.List.Elements.{All-nil, All-cons}
use Rattle.std.proofs.lemmas.Grind.{flat_map-append}
use Rattle.wasm_encoder_base.specs.Table.{OperandSyntax, Space, Labels, Functions, Types, Tables, Memories, Tags, Fields}
use Rattle.wast_parser.specs.Identifiers.{Reference, ByNumber, ByName}
use Rattle.wast_value_types.specs.ValueTree.{HeapType, Abstract, Concrete, Exact, ValType, Number, Ref, StorageType, Packed, Value}
use Rattle.wast_signatures.specs.TypeTree.{Local, Sig, InnerType, FuncType, StructType, ArrayType, ContType, StructField, TypeItem, TypeUse}
use Rattle.wast_operands.specs.OperandTree.{MemArgTarget, Handle, OnLabel, OnSwitch}
use Rattle.wast_operands.specs.OperandTree as operand
use Rattle.wast_typed_operands.specs.TypedTree.{Catch, CatchTag, CatchTagRef, CatchAll, CatchAllRef}
use Rattle.wast_core_instr.specs.InstructionTree.{Operands, Instruction}
use Rattle.wast_core_instr.specs.InstructionTree as instr
use Rattle.wast_imports.specs.ImportTree.{ExternType, OfFunc, OfExactFunc, OfTable, OfMemory, OfGlobal, OfTag, Item, ImportItems, Single, Group1, Group2}
use Rattle.wast_module_fields.specs.FieldTree.{Expr, Function, Elements, Indices, Expressions, Defined, Imported, Func, Table, TableOf, Memory, MemoryOf, Global, Tag, ElemMode, PassiveElem, DeclaredElem, ActiveElem, DataMode, PassiveData, ActiveData, Field, TypeField, RecField, ImportField, Define, ExportField, StartField, ElemField, DataField, CustomField}
use Rattle.wast_names.specs.Walk.{first_unmet}
use Rattle.wast_names.specs.Demand.{is_met}
use Rattle.wast_meaning.specs.Written.{has_any, space_of_kind, written_out}
use Rattle.wast_meaning.specs.Mentions.{Mention, Refers, Uses, UsesInBlock, Part, Constant, Body, first_space, second_space, syntax_of, second_mention, catch_mentions, handle_mentions, target_mention, operand_mentions, instr_mentions, expr_mentions, heap_mentions, val_mentions, ref_mentions, storage_mentions, local_mentions, sig_mentions, inner_mentions, type_mentions, refers_if, use_mentions, extern_mentions, import_mentions, says, elements_parts, defined_parts, elem_mode_parts, data_mode_parts, part_mentions, field_mentions}
use Rattle.wast_meaning.specs.Implied.{no_sig, is_short}
use Rattle.wast_meaning.specs.Demands.{all_demands}
use Rattle.wast_meaning.specs.Numbered.{expanded, resolved}
use Rattle.wast_meaning.specs.Settled.{is_number, has_number, block_settled, says_number, is_settled, are_settled}
use Rattle.wast_meaning.proofs.Settled.{left, right, front, back}
use Rattle.wast_meaning.proofs.SettledFields.{said_parts}
use Rattle.wast_conversions.specs.Resolved.{IfThere, IsNumber, HeapResolved, ValResolved, StorageResolved, SigResolved, InnerResolved, TypeResolved, UseResolved, ExternResolved, ImportResolved, ResultsResolved, ShortResolved, BlockResolved, CatchResolved, TargetResolved, HandleResolved, OperandsResolved, InstrResolved}
use Rattle.wast_resolve_laws.proofs.Plain.{stands_alone, is_plain, written_plain, expanded_plain, numbered_plain}
use Rattle.wast_resolve_laws.proofs.Resolved.{resolved_settled}
use Rattle.wast_encode_laws.proofs.Lists.{each_is, none_left}
use Rattle.wast_encode_laws.specs.Ready.{ExprResolved, FunctionResolved, ElementsResolved, ElemModeResolved, DataModeResolved, DefinedResolved, FieldResolved}

module _ {N P : Type 0} where
  number_is : (i : Reference N P) → is_number i ≡ true → IsNumber i
  number_is (ByNumber n p) e = tt
  number_is (ByName id) e = elim (false≢true e) [ ]

-- TYPES, by a test that asks for numbers
module _ {N P : Type 0} (q : Mention N P → Bool) (numbers : (s : Space) (i : Reference N P) → q (Refers s i) ≡ is_number i) where
  said_is : (s : Space) (i : Reference N P) → list_all q (Refers s i ∷ []) ≡ true → IsNumber i
  said_is s i e = number_is i (sym (numbers s i) ∙ left (q (Refers s i)) true e)

  if_is : (s : Space) (o : Option (Reference N P)) → list_all q (refers_if s o) ≡ true → IfThere IsNumber o
  if_is s None e = tt
  if_is s (Some i) e = said_is s i e

  heap_is : (h : HeapType N P) → list_all q (heap_mentions h) ≡ true → HeapResolved h
  heap_is (Abstract shared w) e = tt
  heap_is (Concrete i) e = said_is Types i e
  heap_is (Exact i) e = said_is Types i e

  val_is : (t : ValType N P) → list_all q (val_mentions t) ≡ true → ValResolved t
  val_is (Number t) e = tt
  val_is (Ref r) e = heap_is r.heap_type e

  vals_are : (ts : List (ValType N P)) → list_all q (flat_map val_mentions ts) ≡ true → All ValResolved ts
  vals_are ts e = each_is q val_mentions ValResolved val_is ts e

  storage_is : (t : StorageType N P) → list_all q (storage_mentions t) ≡ true → StorageResolved t
  storage_is (Packed t) e = tt
  storage_is (Value t) e = val_is t e

  locals_are : (ls : List (Local N P)) → list_all q (local_mentions ls) ≡ true → All (λ (l : Local N P). ValResolved l.val_type) ls
  locals_are ls e = each_is q (λ (l : Local N P). val_mentions l.val_type) (λ (l : Local N P). ValResolved l.val_type) (λ l h. val_is l.val_type h) ls e

  sig_is : (s : Sig N P) → list_all q (sig_mentions s) ≡ true → SigResolved s
  sig_is s e =
      (locals_are s.params (front q (local_mentions s.params) (flat_map val_mentions s.results) e), vals_are s.results (back q (local_mentions s.params) (flat_map val_mentions s.results) e))

  inner_is : (t : InnerType N P) → list_all q (inner_mentions t) ≡ true → InnerResolved t
  inner_is (FuncType s) e = sig_is s e
  inner_is (StructType fs) e =
      each_is q (λ (f : StructField N P). storage_mentions f.field_type.storage) (λ (f : StructField N P). StorageResolved f.field_type.storage) (λ f h. storage_is f.field_type.storage h) fs e
  inner_is (ArrayType t) e = storage_is t.storage e
  inner_is (ContType i) e = said_is Types i e

  type_is : (t : TypeItem N P) → list_all q (type_mentions t) ≡ true → TypeResolved t.definition
  type_is t e =
      let d = t.definition in
      let supers = refers_if Types d.supertype in
      let described = refers_if Types d.describes in
      let descriptors = refers_if Types d.descriptor in
      let inner = inner_mentions d.comp.inner in
      let three = front q (supers ++ described ++ descriptors) inner e in
      let two_of = front q (supers ++ described) descriptors three in
      (if_is Types d.supertype (front q supers described two_of), inner_is d.comp.inner (back q (supers ++ described ++ descriptors) inner e))

-- USES
module _ {N P : Type 0} where
  index_is : (o : Option (Reference N P)) (s : Option (Sig N P)) → has_number o ≡ true → UseResolved (record { index = o; inline = s })
  index_is None s e = elim (false≢true e) [ ]
  index_is (Some i) s e = number_is i e

  use_is : (u : TypeUse N P) → is_settled (Uses u) ≡ true → UseResolved u
  use_is u e = index_is u.index u.inline (left (has_number u.index) (list_all says_number (use_mentions u)) e)

  one_use : (u : TypeUse N P) → list_all is_settled (Uses u ∷ []) ≡ true → UseResolved u
  one_use u e = use_is u (left (is_settled (Uses u)) true e)

  -- a short block
  results_are : (ts : List (ValType N P)) → length ts ≤ 1 → list_all says_number (flat_map val_mentions ts) ≡ true → ResultsResolved ts
  results_are [] l e = tt
  results_are (t ∷ ts) l e =
      let none : length ts ≡ 0 = omega (arith, l) in
      (val_is says_number (λ s i. refl) t (front says_number (val_mentions t) (flat_map val_mentions ts) e), nil_from_length ts none)

  short_is : (o : Option (Sig N P)) → is_short (unwrap_or o no_sig) ≡ true → list_all says_number (flat_map sig_mentions (option_to_list o)) ≡ true → ShortResolved o
  short_is None h e = tt
  short_is (Some s) h e =
      let mentions = front says_number (sig_mentions s) [] e in (
        nil_from_length s.params (eqb-true (length s.params) 0 (left (nat_eq (length s.params) 0) (nat_le (length s.results) 1) h)),
        results_are s.results (leb-true (length s.results) 1 (right (nat_eq (length s.params) 0) (nat_le (length s.results) 1) h))
            (back says_number (local_mentions s.params) (flat_map val_mentions s.results) mentions),
      )

  block_with : (o : Option (Reference N P)) (s : Option (Sig N P)) → (has_number o || (not (is_some o) && is_short (unwrap_or s no_sig))) ≡ true →
      list_all says_number (flat_map sig_mentions (option_to_list s)) ≡ true → BlockResolved (record { index = o; inline = s })
  block_with None s h e = short_is s h e
  block_with (Some (ByNumber n p)) s h e = tt
  block_with (Some (ByName id)) s h e = elim (false≢true h) [ ]

  block_is : (u : TypeUse N P) → is_settled (UsesInBlock u) ≡ true → BlockResolved u
  block_is u e =
      block_with u.index u.inline (left (block_settled u) (list_all says_number (use_mentions u)) e)
      (back says_number (refers_if Types u.index) (flat_map sig_mentions (option_to_list u.inline)) (right (block_settled u) (list_all says_number (use_mentions u)) e))

-- INSTRUCTIONS
module _ {N P : Type 0} where
  abbrev Said : List (Mention N P) → Type 0
  Said ms = list_all is_settled ms ≡ true

  first_is : (s : Space) (i : Reference N P) (ms : List (Mention N P)) → Said (Refers s i ∷ ms) → IsNumber i
  first_is s i ms e = number_is i (left (is_number i) (list_all is_settled ms) e)

  rest_of : (m : Mention N P) (ms : List (Mention N P)) → Said (m ∷ ms) → Said ms
  rest_of m ms e = right (is_settled m) (list_all is_settled ms) e

  last_is : (m : Mention N P) (s : Space) (i : Reference N P) → Said (m ∷ Refers s i ∷ []) → IsNumber i
  last_is m s i e = first_is s i [] (rest_of m (Refers s i ∷ []) e)

  catch_is : (x : Catch N P) → Said (catch_mentions x) → CatchResolved x
  catch_is (CatchTag t l) e = (first_is Tags t (Refers Labels l ∷ []) e, last_is (Refers Tags t) Labels l e)
  catch_is (CatchTagRef t l) e = (first_is Tags t (Refers Labels l ∷ []) e, last_is (Refers Tags t) Labels l e)
  catch_is (CatchAll l) e = first_is Labels l [] e
  catch_is (CatchAllRef l) e = first_is Labels l [] e

  handle_is : (x : Handle N P) → Said (handle_mentions x) → HandleResolved x
  handle_is (OnLabel t l) e = (first_is Tags t (Refers Labels l ∷ []) e, last_is (Refers Tags t) Labels l e)
  handle_is (OnSwitch t) e = first_is Tags t [] e

  labels_are : (is : List (Reference N P)) (ms : List (Mention N P)) → Said (map (Refers Labels) is ++ ms) → All IsNumber is
  labels_are [] ms e = All-nil IsNumber
  labels_are (i ∷ is) ms e = All-cons IsNumber i is (first_is Labels i (map (Refers Labels) is ++ ms) e) (labels_are is ms (rest_of (Refers Labels i) (map (Refers Labels) is ++ ms) e))

  second_is : (s : Space) (i j : Reference N P) → Said (second_mention s i j ∷ []) → IsNumber j
  second_is Fields i j e = number_is j (left (is_number j) true e)
  second_is s i j e = number_is j (left (is_number j) true e)

  if_said : (s : Space) (o : Option (Reference N P)) → Said (refers_if s o) → IfThere IsNumber o
  if_said s o e = if_is is_settled (λ t i. refl) s o e

  both_are : (s t : Space) (p : Option (Reference N P × Reference N P)) → Said (flat_map (λ (ij : Reference N P × Reference N P). Refers s ij.0 ∷ Refers t ij.1 ∷ []) (option_to_list p)) → IfThere (λ (ij : Reference N P × Reference N P). IsNumber ij.0 × IsNumber ij.1) p
  both_are s t None e = tt
  both_are s t (Some p) e = (first_is s p.0 (Refers t p.1 ∷ []) e, last_is (Refers s p.0) t p.1 e)

  target_is : (o : Option (MemArgTarget N P)) → Said (map target_mention (option_to_list o)) → IfThere TargetResolved o
  target_is None e = tt
  target_is (Some (operand.Memory i)) e = first_is Memories i [] e
  target_is (Some (operand.Array i)) e = first_is Types i [] e

  heap_said : (h : HeapType N P) → Said (heap_mentions h) → HeapResolved h
  heap_said h e = heap_is is_settled (λ s i. refl) h e

  select_is : (ts : Option (List (ValType N P))) → Said (flat_map (λ (vs : List (ValType N P)). flat_map val_mentions vs) (option_to_list ts)) → IfThere (All ValResolved) ts
  select_is None e = tt
  select_is (Some ts) e = vals_are is_settled (λ s i. refl) ts (front is_settled (flat_map val_mentions ts) [] e)

  operands_are : (o : OperandSyntax) (x : Operands N P) → Said (operand_mentions o x) → OperandsResolved x
  operands_are o (instr.Block b) e = block_is b.type_use (left (is_settled (UsesInBlock b.type_use)) true e)
  operands_are o (instr.TryTable t) e = (
    block_is t.block.type_use (left (is_settled (UsesInBlock t.block.type_use)) (list_all is_settled (flat_map catch_mentions t.catches)) e),
    each_is is_settled catch_mentions CatchResolved catch_is t.catches (rest_of (UsesInBlock t.block.type_use) (flat_map catch_mentions t.catches) e),
  )
  operands_are o (instr.One i) e = first_is (first_space o) i [] e
  operands_are o (instr.Two i j) e =
      (first_is (first_space o) i (second_mention (second_space o) i j ∷ []) e, second_is (second_space o) i j (rest_of (Refers (first_space o) i) (second_mention (second_space o) i j ∷ []) e))
  operands_are o (instr.Counted i n) e = first_is (first_space o) i [] e
  operands_are o (instr.LabelTable is i) e = (labels_are is (Refers Labels i ∷ []) e, first_is Labels i [] (back is_settled (map (Refers Labels) is) (Refers Labels i ∷ []) e))
  operands_are o (instr.Indirect x) e =
      (if_said Tables x.table (front is_settled (refers_if Tables x.table) (Uses x.type_use ∷ []) e), one_use x.type_use (back is_settled (refers_if Tables x.table) (Uses x.type_use ∷ []) e))
  operands_are o (instr.Optional i) e = if_said (first_space o) i e
  operands_are o (instr.OptionalTwo p) e = both_are (first_space o) (second_space o) p e
  operands_are o (instr.OptionalThen i j) e = (
    if_said (first_space o) i (front is_settled (refers_if (first_space o) i) (Refers (second_space o) j ∷ []) e),
    first_is (second_space o) j [] (back is_settled (refers_if (first_space o) i) (Refers (second_space o) j ∷ []) e),
  )
  operands_are o (instr.Heap h) e = heap_said h e
  operands_are o (instr.Ref r) e = heap_said r.heap_type e
  operands_are o (instr.Cast x) e =
      let after_label = rest_of (Refers Labels x.label) (ref_mentions x.source ++ ref_mentions x.target) e in (
        first_is Labels x.label (ref_mentions x.source ++ ref_mentions x.target) e,
        heap_said x.source.heap_type (front is_settled (ref_mentions x.source) (ref_mentions x.target) after_label),
        heap_said x.target.heap_type (back is_settled (ref_mentions x.source) (ref_mentions x.target) after_label),
      )
  operands_are o (instr.Types ts) e = select_is ts e
  operands_are o (instr.Memory m) e = target_is m.target e
  operands_are o (instr.MemoryLane m n) e = target_is m.target e
  operands_are o (instr.Ordered ordering x) e = operands_are o x e
  operands_are o (instr.Resume i hs) e =
      (first_is Types i (flat_map handle_mentions hs) e, each_is is_settled handle_mentions HandleResolved handle_is hs (rest_of (Refers Types i) (flat_map handle_mentions hs) e))
  operands_are o (instr.ResumeThrow i t hs) e =
      let after_type = rest_of (Refers Types i) (Refers Tags t ∷ flat_map handle_mentions hs) e in (
        first_is Types i (Refers Tags t ∷ flat_map handle_mentions hs) e,
        first_is Tags t (flat_map handle_mentions hs) after_type,
        each_is is_settled handle_mentions HandleResolved handle_is hs (rest_of (Refers Tags t) (flat_map handle_mentions hs) after_type),
      )
  operands_are o _ e = tt

  instr_is : (i : Instruction N P) → Said (instr_mentions i) → InstrResolved i
  instr_is i e = operands_are (syntax_of i.head) i.operands e

  expr_is : (e : Expr N P) → Said (expr_mentions e) → ExprResolved e
  expr_is e h = each_is is_settled instr_mentions InstrResolved instr_is e.instrs h

-- FIELDS, part by part
module _ {N P : Type 0} where
  abbrev PartsSaid : List (Part N P) → Type 0
  PartsSaid ps = list_all is_settled (flat_map part_mentions ps) ≡ true

  mentions_said : (ms : List (Mention N P)) → PartsSaid (says ms) → Said ms
  mentions_said ms e = ap (list_all is_settled) (sym (said_parts ms)) ∙ e

  front_said : (ps qs : List (Part N P)) → PartsSaid (ps ++ qs) → PartsSaid ps
  front_said ps qs e = front is_settled (flat_map part_mentions ps) (flat_map part_mentions qs) (ap (list_all is_settled) (sym (flat_map-append part_mentions ps qs)) ∙ e)

  back_said : (ps qs : List (Part N P)) → PartsSaid (ps ++ qs) → PartsSaid qs
  back_said ps qs e = back is_settled (flat_map part_mentions ps) (flat_map part_mentions qs) (ap (list_all is_settled) (sym (flat_map-append part_mentions ps qs)) ∙ e)

  -- what a field says itself, then constant expressions
  said_first : (ms : List (Mention N P)) (ps : List (Part N P)) → PartsSaid (says ms ++ ps) → Said ms
  said_first ms ps e = mentions_said ms (front_said (says ms) ps e)

  constant_is : (e : Expr N P) → PartsSaid (Constant e ∷ []) → ExprResolved e
  constant_is e h = expr_is e (front is_settled (expr_mentions e) [] h)

  constants_are : (es : List (Expr N P)) → PartsSaid (map Constant es) → All ExprResolved es
  constants_are [] h = All-nil ExprResolved
  constants_are (e ∷ es) h =
      All-cons ExprResolved e es (expr_is e (front is_settled (expr_mentions e) (flat_map part_mentions (map Constant es)) h)) (constants_are es (back is_settled (expr_mentions e) (flat_map part_mentions (map Constant es)) h))

  init_is : (o : Option (Expr N P)) → PartsSaid (map Constant (option_to_list o)) → IfThere ExprResolved o
  init_is None h = tt
  init_is (Some e) h = constant_is e h

  func_is : (f : Function N P) → PartsSaid (Body f ∷ []) → FunctionResolved f
  func_is f h =
      let whole = front is_settled (Uses f.type_use ∷ local_mentions f.locals ++ expr_mentions f.body) [] h in
      let after_use = rest_of (Uses f.type_use) (local_mentions f.locals ++ expr_mentions f.body) whole in
      record {
        type_use = use_is f.type_use (left (is_settled (Uses f.type_use)) (list_all is_settled (local_mentions f.locals ++ expr_mentions f.body)) whole);
        locals = locals_are is_settled (λ s i. refl) f.locals (front is_settled (local_mentions f.locals) (expr_mentions f.body) after_use);
        body = expr_is f.body (back is_settled (local_mentions f.locals) (expr_mentions f.body) after_use);
      }

  extern_is : (t : ExternType N P) → Said (extern_mentions t) → ExternResolved t
  extern_is (OfFunc u) h = one_use u h
  extern_is (OfExactFunc u) h = one_use u h
  extern_is (OfTable t) h = heap_said t.element.heap_type h
  extern_is (OfMemory t) h = tt
  extern_is (OfGlobal t) h = val_is is_settled (λ s i. refl) t.val_type h
  extern_is (OfTag u) h = one_use u h

  imports_are : (is : ImportItems N P) → Said (import_mentions is) → ImportResolved is
  imports_are (Single name i) h = extern_is i.extern_type h
  imports_are (Group1 is) h =
      each_is is_settled (λ (i : List ℕ × Item N P). extern_mentions i.1.extern_type) (λ (i : List ℕ × Item N P). ExternResolved i.1.extern_type) (λ i e. extern_is i.1.extern_type e) is h
  imports_are (Group2 names i) h = extern_is i.extern_type h

  indices_are : (s : Space) (is : List (Reference N P)) → Said (map (Refers s) is) → All IsNumber is
  indices_are s [] h = All-nil IsNumber
  indices_are s (i ∷ is) h = All-cons IsNumber i is (first_is s i (map (Refers s) is) h) (indices_are s is (rest_of (Refers s i) (map (Refers s) is) h))

  elements_are : (es : Elements N P) → PartsSaid (elements_parts es) → ElementsResolved es
  elements_are (Indices is) h = indices_are Functions is (mentions_said (map (Refers Functions) is) h)
  elements_are (Expressions t es) h = (heap_said t.heap_type (said_first (ref_mentions t) (map Constant es) h), constants_are es (back_said (says (ref_mentions t)) (map Constant es) h))

  defined_is : (d : Defined N P) → stands_alone d ≡ true → PartsSaid (defined_parts d) → DefinedResolved d
  defined_is (Imported from name t) a h = elim (false≢true a) [ ]
  defined_is (Func f) a h = func_is f h
  defined_is (Table t init) a h =
      (heap_said t.element.heap_type (said_first (ref_mentions t.element) (map Constant (option_to_list init)) h), init_is init (back_said (says (ref_mentions t.element)) (map Constant (option_to_list init)) h))
  defined_is (TableOf wide t es) a h = elim (false≢true a) [ ]
  defined_is (Memory t) a h = tt
  defined_is (MemoryOf wide page vs) a h = elim (false≢true a) [ ]
  defined_is (Global t init) a h =
      (val_is is_settled (λ s i. refl) t.val_type (said_first (val_mentions t.val_type) (Constant init ∷ []) h), constant_is init (back_said (says (val_mentions t.val_type)) (Constant init ∷ []) h))
  defined_is (Tag u) a h = one_use u h

  elem_mode_is : (m : ElemMode N P) → PartsSaid (elem_mode_parts m) → ElemModeResolved m
  elem_mode_is PassiveElem h = tt
  elem_mode_is DeclaredElem h = tt
  elem_mode_is (ActiveElem t offset) h =
      (if_said Tables t (said_first (refers_if Tables t) (Constant offset ∷ []) h), constant_is offset (back_said (says (refers_if Tables t)) (Constant offset ∷ []) h))

  data_mode_is : (m : DataMode N P) → PartsSaid (data_mode_parts m) → DataModeResolved m
  data_mode_is PassiveData h = tt
  data_mode_is (ActiveData t offset) h =
      (if_said Memories t (said_first (refers_if Memories t) (Constant offset ∷ []) h), constant_is offset (back_said (says (refers_if Memories t)) (Constant offset ∷ []) h))

  field_is : (f : Field N P) → is_plain f ≡ true → list_all is_settled (field_mentions f) ≡ true → FieldResolved f
  field_is (TypeField t) a h = type_is is_settled (λ s i. refl) t (mentions_said (type_mentions t) h)
  field_is (RecField r) a h =
      each_is is_settled type_mentions (λ (t : TypeItem N P). TypeResolved t.definition) (type_is is_settled (λ s i. refl)) r.types (mentions_said (flat_map type_mentions r.types) h)
  field_is (ImportField i) a h = imports_are i.items (mentions_said (import_mentions i.items) h)
  field_is (Define d) a h =
      (none_left d.exports (left (not (has_any d.exports)) (stands_alone d.defined) a), defined_is d.defined (right (not (has_any d.exports)) (stands_alone d.defined) a) h)
  field_is (ExportField e) a h = first_is (space_of_kind e.kind) e.item [] h
  field_is (StartField s) a h = first_is Functions s.func [] h
  field_is (ElemField e) a h =
      (elem_mode_is e.mode (front_said (elem_mode_parts e.mode) (elements_parts e.elements) h), elements_are e.elements (back_said (elem_mode_parts e.mode) (elements_parts e.elements) h))
  field_is (DataField d) a h = data_mode_is d.mode h
  field_is (CustomField c) a h = tt

  fields_are : (fs : List (Field N P)) → list_all is_plain fs ≡ true → are_settled fs ≡ true → All FieldResolved fs
  fields_are [] a h = All-nil FieldResolved
  fields_are (f ∷ fs) a h =
      All-cons FieldResolved f fs
      (field_is f (left (is_plain f) (list_all is_plain fs) a) (left (list_all is_settled (field_mentions f)) (are_settled fs) h))
      (fields_are fs (right (is_plain f) (list_all is_plain fs) a) (right (list_all is_settled (field_mentions f)) (are_settled fs) h))

module _ {N P : Type 0} (eq : N → N → Bool) (naming : ℕ → N) (fs : List (Field N P)) where
  -- nothing stands inline in what fields are resolved to
  pub resolved_plain : list_all is_plain (resolved eq naming fs) ≡ true
  resolved_plain = numbered_plain eq (expanded eq (written_out naming fs)) (expanded_plain eq (written_out naming fs) (written_plain naming 0 fs))

  module _ (self : (n : N) → eq n n ≡ true) (sound : (m n : N) → eq m n ≡ true → m ≡ n) where
    pub ready : first_unmet is_met (all_demands eq naming fs) ≡ None → All FieldResolved (resolved eq naming fs)
    ready met = fields_are (resolved eq naming fs) resolved_plain (resolved_settled eq self sound naming fs met)
