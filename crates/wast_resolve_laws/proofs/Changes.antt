-- What trees with other indices say of names: what they said, each index changed.
use Rattle.std.proofs.Common.{◌≡◌, List, [], ◌∷◌, ◌++◌, map, Option, Some, None, refl, sym, ◌∙◌, ap}
use Rattle.std.specs.Prelude.{option_map, option_to_list}
use Rattle.std.specs.List.{flat_map}
use Rattle.std.proofs.lemmas.List.{map-append}
use Rattle.std.proofs.lemmas.Simd.{map-map}
use Rattle.wasm_encoder_base.specs.Table.{OperandSyntax, Space, Labels, Functions, Types, Tables, Memories, Tags, Fields, Locals, Globals, Datas, Elems}
use Rattle.wast_parser.specs.Identifiers.{Reference}
use Rattle.wast_value_types.specs.ValueTree.{HeapType, Abstract, Concrete, Exact, ValType, Number, Ref, StorageType, Packed, Value}
use Rattle.wast_signatures.specs.TypeTree.{Local, Sig, InnerType, FuncType, StructType, ArrayType, ContType, TypeItem, TypeUse}
use Rattle.wast_operands.specs.OperandTree.{MemArgTarget, Handle, OnLabel, OnSwitch}
use Rattle.wast_operands.specs.OperandTree as operand
use Rattle.wast_typed_operands.specs.TypedTree.{Catch, CatchTag, CatchTagRef, CatchAll, CatchAllRef}
use Rattle.wast_core_instr.specs.InstructionTree.{Operands, Instruction}
use Rattle.wast_core_instr.specs.InstructionTree as instr
use Rattle.wast_imports.specs.ImportTree.{ExternType, OfFunc, OfExactFunc, OfTable, OfMemory, OfGlobal, OfTag, ImportItems, Single, Group1, Group2}
use Rattle.wast_field_syntax.specs.FieldTree.{Expr, Elements, Indices, Expressions, Defined, Imported, Func, Table, TableOf, Memory, MemoryOf, Global, Tag, ElemMode, PassiveElem, DeclaredElem, ActiveElem, DataMode, PassiveData, ActiveData, Field, TypeField, RecField, ImportField, Define, ExportField, StartField, ElemField, DataField, CustomField}
use Rattle.wast_meaning.specs.Mentions.{Mention, Refers, Member, Uses, UsesInBlock, Repeats, Part, Says, Constant, Body, first_space, second_space, syntax_of, second_mention, catch_mentions, handle_mentions, target_mention, operand_mentions, instr_mentions, heap_mentions, ref_mentions, val_mentions, storage_mentions, local_mentions, sig_mentions, inner_mentions, type_mentions, use_mentions, refers_if, extern_mentions, import_mentions, says, elements_parts, defined_parts, elem_mode_parts, data_mode_parts, parts}
use Rattle.wast_meaning.specs.Changed.{Change, Changes, heap_changed, ref_changed, val_changed, storage_changed, field_type_changed, local_changed, sig_changed, inner_changed, type_changed, use_changed, catch_changed, handle_changed, target_changed, second_changed, operands_changed, instr_changed, extern_changed, item_changed, imports_changed, constant_changed, func_changed, elements_changed, defined_changed, elem_mode_changed, data_mode_changed, field_changed}
use Rattle.wast_meaning.proofs.Settled.{two}

abbrev pub use_with : {N P : Type 0} → Option (Reference N P) → Option (Sig N P) → TypeUse N P
use_with i o = record { index = i; inline = o }

-- what becomes of what is said; the type in which a field is looked up stays
abbrev pub mention_changed : {N P : Type 0} → Change N P → Mention N P → Mention N P
mention_changed c (Refers s i) = Refers s (c.index s i)
mention_changed c (Member t i) = Member t (c.member t i)
mention_changed c (Uses u) = Uses (use_changed c u)
mention_changed c (UsesInBlock u) = UsesInBlock (record { index = c.block_use u; inline = option_map (sig_changed c) u.inline })
mention_changed c (Repeats id) = Repeats id

-- as a view sees it
module _ {N P A : Type 0} (c : Change N P) (v : Mention N P → A) where
  abbrev pub w : Mention N P → A
  w m = v (mention_changed c m)

  abbrev pub Same : List (Mention N P) → List (Mention N P) → Type 0
  Same new old = map v new ≡ map w old

  joined : (a b x y : List (Mention N P)) → Same a x → Same b y → Same (a ++ b) (x ++ y)
  joined a b x y g h = map-append v a b ∙ two (λ p q. p ++ q) g h ∙ sym (map-append w x y)

  first : (m n : Mention N P) (ms ns : List (Mention N P)) → v m ≡ w n → Same ms ns → Same (m ∷ ms) (n ∷ ns)
  first m n ms ns g h = two (λ p q. p ∷ q) g h

  each : {X : Type 0} (g : X → List (Mention N P)) (h : X → X) → ((x : X) → Same (g (h x)) (g x)) → (xs : List X) → Same (flat_map g (map h xs)) (flat_map g xs)
  each g h so [] = refl
  each g h so (x ∷ xs) = joined (g (h x)) (flat_map g (map h xs)) (g x) (flat_map g xs) (so x) (each g h so xs)

  some : {X : Type 0} (g : X → List (Mention N P)) (h : X → X) → ((x : X) → Same (g (h x)) (g x)) → (o : Option X) → Same (flat_map g (option_to_list (option_map h o))) (flat_map g (option_to_list o))
  some g h so None = refl
  some g h so (Some x) = each g h so (x ∷ [])

  refers_each : (s : Space) (is : List (Reference N P)) → Same (map (Refers s) (map (c.index s) is)) (map (Refers s) is)
  refers_each s [] = refl
  refers_each s (i ∷ is) = ap (λ l. v (Refers s (c.index s i)) ∷ l) (refers_each s is)

  if_so : (s : Space) (o : Option (Reference N P)) → Same (refers_if s (option_map (c.index s) o)) (refers_if s o)
  if_so s None = refl
  if_so s (Some i) = refl

  heap_so : (h : HeapType N P) → Same (heap_mentions (heap_changed c h)) (heap_mentions h)
  heap_so (Abstract shared word) = refl
  heap_so (Concrete i) = refl
  heap_so (Exact i) = refl

  val_so : (t : ValType N P) → Same (val_mentions (val_changed c t)) (val_mentions t)
  val_so (Number t) = refl
  val_so (Ref r) = heap_so r.heap_type

  storage_so : (t : StorageType N P) → Same (storage_mentions (storage_changed c t)) (storage_mentions t)
  storage_so (Packed t) = refl
  storage_so (Value t) = val_so t

  pub locals_so : (ls : List (Local N P)) → Same (local_mentions (map (local_changed c) ls)) (local_mentions ls)
  locals_so ls = each (λ l. val_mentions l.val_type) (local_changed c) (λ l. val_so l.val_type) ls

  pub sig_so : (s : Sig N P) → Same (sig_mentions (sig_changed c s)) (sig_mentions s)
  sig_so s =
      joined (local_mentions (map (local_changed c) s.params)) (flat_map val_mentions (map (val_changed c) s.results)) (local_mentions s.params) (flat_map val_mentions s.results)
      (locals_so s.params) (each val_mentions (val_changed c) val_so s.results)

  -- what a use says itself
  pub use_so : (u : TypeUse N P) → Same (use_mentions (record { index = option_map (c.index Types) u.index; inline = option_map (sig_changed c) u.inline })) (use_mentions u)
  use_so u =
      joined (refers_if Types (option_map (c.index Types) u.index)) (flat_map sig_mentions (option_to_list (option_map (sig_changed c) u.inline))) (refers_if Types u.index) (flat_map sig_mentions (option_to_list u.inline))
      (if_so Types u.index) (some sig_mentions (sig_changed c) sig_so u.inline)

  inner_so : (t : InnerType N P) → Same (inner_mentions (inner_changed c t)) (inner_mentions t)
  inner_so (FuncType s) = sig_so s
  inner_so (StructType fs) = each (λ f. storage_mentions f.field_type.storage) (λ f. record { id = f.id; field_type = field_type_changed c f.field_type }) (λ f. storage_so f.field_type.storage) fs
  inner_so (ArrayType t) = storage_so t.storage
  inner_so (ContType i) = refl

  type_so : (t : TypeItem N P) → Same (type_mentions (type_changed c t)) (type_mentions t)
  type_so t =
      let d = t.definition in
      let supers = refers_if Types d.supertype in
      let described = refers_if Types d.describes in
      let descriptors = refers_if Types d.descriptor in
      let new_supers = refers_if Types (option_map (c.index Types) d.supertype) in
      let new_described = refers_if Types (option_map (c.index Types) d.describes) in
      let new_descriptors = refers_if Types (option_map (c.index Types) d.descriptor) in
      joined (new_supers ++ new_described ++ new_descriptors) (inner_mentions (inner_changed c d.comp.inner)) (supers ++ described ++ descriptors) (inner_mentions d.comp.inner)
      (joined (new_supers ++ new_described) new_descriptors (supers ++ described) descriptors
      (joined new_supers new_described supers described (if_so Types d.supertype) (if_so Types d.describes)) (if_so Types d.descriptor))
      (inner_so d.comp.inner)

  catch_so : (x : Catch N P) → Same (catch_mentions (catch_changed c x)) (catch_mentions x)
  catch_so (CatchTag t l) = refl
  catch_so (CatchTagRef t l) = refl
  catch_so (CatchAll l) = refl
  catch_so (CatchAllRef l) = refl

  handle_so : (x : Handle N P) → Same (handle_mentions (handle_changed c x)) (handle_mentions x)
  handle_so (OnLabel t l) = refl
  handle_so (OnSwitch t) = refl

  target_so : (o : Option (MemArgTarget N P)) → Same (map target_mention (option_to_list (option_map (target_changed c) o))) (map target_mention (option_to_list o))
  target_so None = refl
  target_so (Some (operand.Memory i)) = refl
  target_so (Some (operand.Array i)) = refl

  extern_so : (t : ExternType N P) → Same (extern_mentions (extern_changed c t)) (extern_mentions t)
  extern_so (OfFunc u) = refl
  extern_so (OfExactFunc u) = refl
  extern_so (OfTable t) = heap_so t.element.heap_type
  extern_so (OfMemory t) = refl
  extern_so (OfGlobal t) = val_so t.val_type
  extern_so (OfTag u) = refl

  imports_so : (is : ImportItems N P) → Same (import_mentions (imports_changed c is)) (import_mentions is)
  imports_so (Single name i) = extern_so i.extern_type
  imports_so (Group1 is) = each (λ i. extern_mentions i.1.extern_type) (λ i. (i.0, item_changed c i.1)) (λ i. extern_so i.1.extern_type) is
  imports_so (Group2 names i) = extern_so i.extern_type

  -- INSTRUCTIONS, where the view sees the same whether or not the type is changed in which a field is looked up
  module _ (alike : (s : Space) (t i : Reference N P) → v (Member (c.index s t) (c.member t i)) ≡ v (Member t (c.member t i))) where
    second_so : (first space : Space) (i j : Reference N P) → Same (second_mention space (c.index first i) (second_changed c space i j) ∷ []) (second_mention space i j ∷ [])
    second_so s Fields i j = ap (λ x. x ∷ []) (alike s i j)
    second_so s Labels i j = refl
    second_so s Locals i j = refl
    second_so s Functions i j = refl
    second_so s Types i j = refl
    second_so s Tables i j = refl
    second_so s Memories i j = refl
    second_so s Globals i j = refl
    second_so s Tags i j = refl
    second_so s Datas i j = refl
    second_so s Elems i j = refl

    operands_so : (o : OperandSyntax) (x : Operands N P) → Same (operand_mentions o (operands_changed c o x)) (operand_mentions o x)
    operands_so o instr.NoOperands = refl
    operands_so o (instr.Label None) = refl
    operands_so o (instr.Label (Some id)) = refl
    operands_so o (instr.Block b) = refl
    operands_so o (instr.TryTable t) = ap (λ l. w (UsesInBlock t.block.type_use) ∷ l) (each catch_mentions (catch_changed c) catch_so t.catches)
    operands_so o (instr.One i) = refl
    operands_so o (instr.Two i j) = ap (λ l. w (Refers (first_space o) i) ∷ l) (second_so (first_space o) (second_space o) i j)
    operands_so o (instr.Counted i n) = refl
    operands_so o (instr.LabelTable is i) =
        joined (map (Refers Labels) (map (c.index Labels) is)) (Refers Labels (c.index Labels i) ∷ []) (map (Refers Labels) is) (Refers Labels i ∷ []) (refers_each Labels is) refl
    operands_so o (instr.Indirect x) =
        joined (refers_if Tables (option_map (c.index Tables) x.table)) (Uses (use_changed c x.type_use) ∷ []) (refers_if Tables x.table) (Uses x.type_use ∷ []) (if_so Tables x.table) refl
    operands_so o (instr.Optional i) = if_so (first_space o) i
    operands_so o (instr.OptionalTwo None) = refl
    operands_so o (instr.OptionalTwo (Some p)) = refl
    operands_so o (instr.OptionalThen i j) =
        joined (refers_if (first_space o) (option_map (c.index (first_space o)) i)) (Refers (second_space o) (c.index (second_space o) j) ∷ []) (refers_if (first_space o) i) (Refers (second_space o) j ∷ [])
        (if_so (first_space o) i) refl
    operands_so o (instr.Heap h) = heap_so h
    operands_so o (instr.Ref r) = heap_so r.heap_type
    operands_so o (instr.Cast x) =
        ap (λ l. w (Refers Labels x.label) ∷ l)
        (joined (ref_mentions (ref_changed c x.source)) (ref_mentions (ref_changed c x.target)) (ref_mentions x.source) (ref_mentions x.target) (heap_so x.source.heap_type) (heap_so x.target.heap_type))
    operands_so o (instr.Integer z) = refl
    operands_so o (instr.Float text) = refl
    operands_so o (instr.Lanes x) = refl
    operands_so o (instr.Types ts) = some (λ vs. flat_map val_mentions vs) (map (val_changed c)) (each val_mentions (val_changed c) val_so) ts
    operands_so o (instr.Lane n) = refl
    operands_so o (instr.Shuffle ns) = refl
    operands_so o (instr.Memory m) = target_so m.target
    operands_so o (instr.MemoryLane m n) = target_so m.target
    operands_so o (instr.Fence ordering) = refl
    operands_so o (instr.Ordered ordering x) = operands_so o x
    operands_so o (instr.Resume i hs) = ap (λ l. w (Refers Types i) ∷ l) (each handle_mentions (handle_changed c) handle_so hs)
    operands_so o (instr.ResumeThrow i t hs) = ap (λ l. w (Refers Types i) ∷ w (Refers Tags t) ∷ l) (each handle_mentions (handle_changed c) handle_so hs)

    pub instr_so : (i : Instruction N P) → Same (instr_mentions (instr_changed c i)) (instr_mentions i)
    instr_so i = operands_so (syntax_of i.head) i.operands

-- FIELDS, part by part
abbrev pub part_changed : {N P : Type 0} → Changes N P → Part N P → Part N P
part_changed cs (Says m) = Says (mention_changed cs.outside m)
part_changed cs (Constant e) = Constant (constant_changed cs e)
part_changed cs (Body f) = Body (func_changed cs f)

module _ {N P : Type 0} (cs : Changes N P) where
  abbrev So : List (Part N P) → List (Part N P) → Type 0
  So new old = new ≡ map (part_changed cs) old

  said : (new old : List (Mention N P)) → Same cs.outside (λ m. Says m) new old → So (says new) (says old)
  said new old h = h ∙ sym (map-map (part_changed cs) (λ m. Says m) old)

  both : (a b x y : List (Part N P)) → So a x → So b y → So (a ++ b) (x ++ y)
  both a b x y g h = two (λ p q. p ++ q) g h ∙ sym (map-append (part_changed cs) x y)

  constants : (es : List (Expr N P)) → So (map Constant (map (constant_changed cs) es)) (map Constant es)
  constants [] = refl
  constants (e ∷ es) = ap (λ l. Constant (constant_changed cs e) ∷ l) (constants es)

  init_parts : (o : Option (Expr N P)) → So (map Constant (option_to_list (option_map (constant_changed cs) o))) (map Constant (option_to_list o))
  init_parts None = refl
  init_parts (Some e) = refl

  said_first : (new old : List (Mention N P)) (ps qs : List (Part N P)) → Same cs.outside (λ m. Says m) new old → So ps qs → So (says new ++ ps) (says old ++ qs)
  said_first new old ps qs g h = both (says new) ps (says old) qs (said new old g) h

  elements_so : (es : Elements N P) → So (elements_parts (elements_changed cs es)) (elements_parts es)
  elements_so (Indices is) = said (map (Refers Functions) (map (cs.outside.index Functions) is)) (map (Refers Functions) is) (refers_each cs.outside (λ m. Says m) Functions is)
  elements_so (Expressions t es) =
      said_first (ref_mentions (ref_changed cs.outside t)) (ref_mentions t) (map Constant (map (constant_changed cs) es)) (map Constant es) (heap_so cs.outside (λ m. Says m) t.heap_type) (constants es)

  defined_so : (d : Defined N P) → So (defined_parts (defined_changed cs d)) (defined_parts d)
  defined_so (Imported from name t) = said (extern_mentions (extern_changed cs.outside t)) (extern_mentions t) (extern_so cs.outside (λ m. Says m) t)
  defined_so (Func f) = refl
  defined_so (Table t init) =
      said_first (ref_mentions (ref_changed cs.outside t.element)) (ref_mentions t.element) (map Constant (option_to_list (option_map (constant_changed cs) init))) (map Constant (option_to_list init))
      (heap_so cs.outside (λ m. Says m) t.element.heap_type) (init_parts init)
  defined_so (TableOf wide t es) =
      said_first (ref_mentions (ref_changed cs.outside t)) (ref_mentions t) (elements_parts (elements_changed cs es)) (elements_parts es) (heap_so cs.outside (λ m. Says m) t.heap_type) (elements_so es)
  defined_so (Memory t) = refl
  defined_so (MemoryOf wide page vs) = refl
  defined_so (Global t init) =
      said_first (val_mentions (val_changed cs.outside t.val_type)) (val_mentions t.val_type) (Constant (constant_changed cs init) ∷ []) (Constant init ∷ []) (val_so cs.outside (λ m. Says m) t.val_type) refl
  defined_so (Tag u) = refl

  elem_mode_so : (m : ElemMode N P) → So (elem_mode_parts (elem_mode_changed cs m)) (elem_mode_parts m)
  elem_mode_so PassiveElem = refl
  elem_mode_so DeclaredElem = refl
  elem_mode_so (ActiveElem t offset) =
      said_first (refers_if Tables (option_map (cs.outside.index Tables) t)) (refers_if Tables t) (Constant (constant_changed cs offset) ∷ []) (Constant offset ∷ []) (if_so cs.outside (λ m. Says m) Tables t) refl

  data_mode_so : (m : DataMode N P) → So (data_mode_parts (data_mode_changed cs m)) (data_mode_parts m)
  data_mode_so PassiveData = refl
  data_mode_so (ActiveData t offset) =
      said_first (refers_if Memories (option_map (cs.outside.index Memories) t)) (refers_if Memories t) (Constant (constant_changed cs offset) ∷ []) (Constant offset ∷ []) (if_so cs.outside (λ m. Says m) Memories t) refl

  -- the parts of a field that is changed
  pub parts_so : (f : Field N P) → parts (field_changed cs f) ≡ map (part_changed cs) (parts f)
  parts_so (TypeField t) = said (type_mentions (type_changed cs.outside t)) (type_mentions t) (type_so cs.outside (λ m. Says m) t)
  parts_so (RecField r) =
      said (flat_map type_mentions (map (type_changed cs.outside) r.types)) (flat_map type_mentions r.types) (each cs.outside (λ m. Says m) type_mentions (type_changed cs.outside) (type_so cs.outside (λ m. Says m)) r.types)
  parts_so (ImportField i) = said (import_mentions (imports_changed cs.outside i.items)) (import_mentions i.items) (imports_so cs.outside (λ m. Says m) i.items)
  parts_so (Define d) = defined_so d.defined
  parts_so (ExportField e) = refl
  parts_so (StartField s) = refl
  parts_so (ElemField e) =
      both (elem_mode_parts (elem_mode_changed cs e.mode)) (elements_parts (elements_changed cs e.elements)) (elem_mode_parts e.mode) (elements_parts e.elements) (elem_mode_so e.mode) (elements_so e.elements)
  parts_so (DataField d) = data_mode_so d.mode
  parts_so (CustomField x) = refl
