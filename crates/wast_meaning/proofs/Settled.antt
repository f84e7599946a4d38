-- Settled fields stay as they are.
use Rattle.std.proofs.Common.{◌≡◌, ℕ, Bool, true, false, List, [], ◌∷◌, ◌++◌, map, Option, Some, None, refl, sym, ◌∙◌, ap}
use Rattle.std.specs.Prelude.{◌&&◌, option_map, option_to_list}
use Rattle.std.specs.List.{flat_map, list_all}
use Rattle.std.proofs.lemmas.Bool.{false≢true}
use Rattle.std.proofs.lemmas.List.Folds.{list_all-append}
use Rattle.wasm_encoder_base.specs.Table.{OperandSyntax, Space, Labels, Functions, Types, Tables, Memories, Tags, Fields, Locals, Globals, Datas, Elems}
use Rattle.wast_parser.specs.Identifiers.{Reference, ByNumber, ByName}
use Rattle.wast_field_syntax.specs.ValueTree.{HeapType, Abstract, Concrete, Exact, RefType, ValType, Number, Ref, StorageType, Packed, Value, FieldType}
use Rattle.wast_field_syntax.specs.TypeTree.{Local, Sig, InnerType, FuncType, StructType, ArrayType, ContType, TypeItem, TypeUse}
use Rattle.wast_field_syntax.specs.OperandTree.{MemArgTarget, MemArg, Handle, OnLabel, OnSwitch}
use Rattle.wast_field_syntax.specs.OperandTree as operand
use Rattle.wast_field_syntax.specs.TypedTree as typed
use Rattle.wast_field_syntax.specs.TypedTree.{Catch, CatchTag, CatchTagRef, CatchAll, CatchAllRef}
use Rattle.wast_field_syntax.specs.InstructionTree.{Operands, Instruction}
use Rattle.wast_field_syntax.specs.InstructionTree as instr
use Rattle.wast_meaning.specs.Mentions.{Mention, Refers, Uses, UsesInBlock, first_space, second_space, syntax_of, second_mention, catch_mentions, handle_mentions, target_mention, mem_arg_mentions, operand_mentions, instr_mentions, heap_mentions, ref_mentions, val_mentions, storage_mentions, local_mentions, sig_mentions, inner_mentions, type_mentions, refers_if, use_mentions}
use Rattle.wast_meaning.specs.Changed.{Change, heap_changed, ref_changed, val_changed, storage_changed, field_type_changed, local_changed, sig_changed, inner_changed, type_changed, use_changed, block_changed, catch_changed, handle_changed, target_changed, mem_arg_changed, second_changed, operands_changed, instr_changed}
use Rattle.wast_meaning.specs.Settled.{is_number, has_number, block_settled, says_number, is_settled}

pub left : (a b : Bool) → (a && b) ≡ true → a ≡ true
left true b e = refl
left false b e = e

pub right : (a b : Bool) → (a && b) ≡ true → b ≡ true
right true b e = e
right false b e = elim (false≢true e) [ ]

pub two : {A B C : Type 0} (f : A → B → C) {a x : A} {b y : B} → a ≡ x → b ≡ y → f a b ≡ f x y
two f {a} {x} {b} {y} g h = ap (λ v. f v b) g ∙ ap (λ v. f x v) h

module _ {A : Type 0} (q : A → Bool) where
  pub front : (xs ys : List A) → list_all q (xs ++ ys) ≡ true → list_all q xs ≡ true
  front xs ys e = left (list_all q xs) (list_all q ys) (sym (list_all-append q xs ys) ∙ e)

  pub back : (xs ys : List A) → list_all q (xs ++ ys) ≡ true → list_all q ys ≡ true
  back xs ys e = right (list_all q xs) (list_all q ys) (sym (list_all-append q xs ys) ∙ e)

  -- each element of a list stays
  pub each : {X : Type 0} (g : X → List A) (h : X → X) → ((x : X) → list_all q (g x) ≡ true → h x ≡ x) → (xs : List X) → list_all q (flat_map g xs) ≡ true → map h xs ≡ xs
  each g h same [] e = refl
  each g h same (x ∷ xs) e = same_both (same x (front (g x) (flat_map g xs) e)) (each g h same xs (back (g x) (flat_map g xs) e))
    where
      same_both : h x ≡ x → map h xs ≡ xs → h x ∷ map h xs ≡ x ∷ xs
      same_both a b = ap (λ v. v ∷ map h xs) a ∙ ap (λ v. x ∷ v) b

  some : {X : Type 0} (g : X → List A) (h : X → X) → ((x : X) → list_all q (g x) ≡ true → h x ≡ x) → (o : Option X) → list_all q (flat_map g (option_to_list o)) ≡ true → option_map h o ≡ o
  some g h same None e = refl
  some g h same (Some x) e = ap (λ v. Some v) (same x (front (g x) [] e))

-- what a change leaves
pub record Keeps {N P : Type 0} (c : Change N P) : Type 0 where
  pub index : (s : Space) (n : ℕ) (p : P) → c.index s (ByNumber n p) ≡ ByNumber n p
  pub member : (t : Reference N P) (n : ℕ) (p : P) → c.member t (ByNumber n p) ≡ ByNumber n p
  pub type_use : (u : TypeUse N P) → has_number u.index ≡ true → c.type_use u ≡ u.index
  pub block_use : (u : TypeUse N P) → block_settled u ≡ true → c.block_use u ≡ u.index

module _ {N P : Type 0} (c : Change N P) (k : Keeps c) (q : Mention N P → Bool) (numbers : (s : Space) (i : Reference N P) → q (Refers s i) ≡ is_number i) where
  pub index_stays : (s : Space) (i : Reference N P) → is_number i ≡ true → c.index s i ≡ i
  index_stays s (ByNumber n p) e = k.index s n p
  index_stays s (ByName id) e = elim (false≢true e) [ ]

  said_stays : (s : Space) (i : Reference N P) → list_all q (Refers s i ∷ []) ≡ true → c.index s i ≡ i
  said_stays s i e = index_stays s i (sym (numbers s i) ∙ left (q (Refers s i)) true e)

  pub if_stays : (s : Space) (o : Option (Reference N P)) → list_all q (refers_if s o) ≡ true → option_map (c.index s) o ≡ o
  if_stays s None e = refl
  if_stays s (Some i) e = ap (λ v. Some v) (said_stays s i e)

  heap_stays : (h : HeapType N P) → list_all q (heap_mentions h) ≡ true → heap_changed c h ≡ h
  heap_stays (Abstract shared w) e = refl
  heap_stays (Concrete i) e = ap (λ v. Concrete v) (said_stays Types i e)
  heap_stays (Exact i) e = ap (λ v. Exact v) (said_stays Types i e)

  pub ref_stays : (r : RefType N P) → list_all q (ref_mentions r) ≡ true → ref_changed c r ≡ r
  ref_stays r e = ap (λ v. record r { heap_type = v }) (heap_stays r.heap_type e)

  pub val_stays : (t : ValType N P) → list_all q (val_mentions t) ≡ true → val_changed c t ≡ t
  val_stays (Number t) e = refl
  val_stays (Ref r) e = ap (λ v. Ref v) (ref_stays r e)

  storage_stays : (t : StorageType N P) → list_all q (storage_mentions t) ≡ true → storage_changed c t ≡ t
  storage_stays (Packed t) e = refl
  storage_stays (Value t) e = ap (λ v. Value v) (val_stays t e)

  field_stays : (t : FieldType N P) → list_all q (storage_mentions t.storage) ≡ true → field_type_changed c t ≡ t
  field_stays t e = ap (λ v. record t { storage = v }) (storage_stays t.storage e)

  pub local_stays : (l : Local N P) → list_all q (val_mentions l.val_type) ≡ true → local_changed c l ≡ l
  local_stays l e = ap (λ v. record l { val_type = v }) (val_stays l.val_type e)

  pub locals_stay : (ls : List (Local N P)) → list_all q (local_mentions ls) ≡ true → map (local_changed c) ls ≡ ls
  locals_stay ls e = each q (λ l. val_mentions l.val_type) (local_changed c) local_stays ls e

  pub sig_stays : (s : Sig N P) → list_all q (sig_mentions s) ≡ true → sig_changed c s ≡ s
  sig_stays s e =
      ap (λ v. record { params = v; results = map (val_changed c) s.results }) (locals_stay s.params (front q (local_mentions s.params) (flat_map val_mentions s.results) e))
      ∙ ap (λ v. record { params = s.params; results = v }) (each q val_mentions (val_changed c) val_stays s.results (back q (local_mentions s.params) (flat_map val_mentions s.results) e))

  inner_stays : (t : InnerType N P) → list_all q (inner_mentions t) ≡ true → inner_changed c t ≡ t
  inner_stays (FuncType s) e = ap (λ v. FuncType v) (sig_stays s e)
  inner_stays (StructType fs) e = ap (λ v. StructType v) (each q (λ f. storage_mentions f.field_type.storage) (λ f. record { id = f.id; field_type = field_type_changed c f.field_type }) (λ f h. ap (λ v. record f { field_type = v }) (field_stays f.field_type h)) fs e)
  inner_stays (ArrayType t) e = ap (λ v. ArrayType v) (field_stays t e)
  inner_stays (ContType i) e = ap (λ v. ContType v) (said_stays Types i e)

  pub type_stays : (t : TypeItem N P) → list_all q (type_mentions t) ≡ true → type_changed c t ≡ t
  type_stays t e =
      let d = t.definition in
      let supers = refers_if Types d.supertype in
      let described = refers_if Types d.describes in
      let descriptors = refers_if Types d.descriptor in
      let inner = inner_mentions d.comp.inner in
      let three = front q (supers ++ described ++ descriptors) inner e in
      let two_of = front q (supers ++ described) descriptors three in
      ap (λ v. record t { definition = record { is_final = d.is_final; supertype = v; describes = option_map (c.index Types) d.describes; descriptor = option_map (c.index Types) d.descriptor; comp = record { shared = d.comp.shared; inner = inner_changed c d.comp.inner } } })
      (if_stays Types d.supertype (front q supers described two_of))
      ∙ ap (λ v. record t { definition = record d { describes = v; descriptor = option_map (c.index Types) d.descriptor; comp = record { shared = d.comp.shared; inner = inner_changed c d.comp.inner } } })
      (if_stays Types d.describes (back q supers described two_of))
      ∙ ap (λ v. record t { definition = record d { descriptor = v; comp = record { shared = d.comp.shared; inner = inner_changed c d.comp.inner } } })
      (if_stays Types d.descriptor (back q (supers ++ described) descriptors three))
      ∙ ap (λ v. record t { definition = record d { comp = record { shared = d.comp.shared; inner = v } } })
      (inner_stays d.comp.inner (back q (supers ++ described ++ descriptors) inner e))

module _ {N P : Type 0} (c : Change N P) (k : Keeps c) where
  inline_stays : (u : TypeUse N P) → list_all says_number (use_mentions u) ≡ true → option_map (sig_changed c) u.inline ≡ u.inline
  inline_stays u e = some says_number sig_mentions (sig_changed c) (sig_stays c k says_number (λ s i. refl)) u.inline (back says_number (refers_if Types u.index) (flat_map sig_mentions (option_to_list u.inline)) e)

  pub use_stays : (u : TypeUse N P) → is_settled (Uses u) ≡ true → use_changed c u ≡ u
  use_stays u e =
      ap (λ v. record { index = v; inline = option_map (sig_changed c) u.inline }) (k.type_use u (left (has_number u.index) (list_all says_number (use_mentions u)) e))
      ∙ ap (λ v. record u { inline = v }) (inline_stays u (right (has_number u.index) (list_all says_number (use_mentions u)) e))

  pub one_use : (u : TypeUse N P) → list_all is_settled (Uses u ∷ []) ≡ true → use_changed c u ≡ u
  one_use u e = use_stays u (left (is_settled (Uses u)) true e)

  block_stays : (b : typed.Block N P) → is_settled (UsesInBlock b.type_use) ≡ true → block_changed c b ≡ b
  block_stays b e =
      ap (λ v. record b { type_use = record { index = v; inline = option_map (sig_changed c) b.type_use.inline } }) (k.block_use b.type_use (left (block_settled b.type_use) (list_all says_number (use_mentions b.type_use)) e))
      ∙ ap (λ v. record b { type_use = record { index = b.type_use.index; inline = v } }) (inline_stays b.type_use (right (block_settled b.type_use) (list_all says_number (use_mentions b.type_use)) e))

  -- one index of an instruction, and those that follow
  pub first_stays : (s : Space) (i : Reference N P) (ms : List (Mention N P)) → list_all is_settled (Refers s i ∷ ms) ≡ true → c.index s i ≡ i
  first_stays s i ms e = index_stays c k is_settled (λ t j. refl) s i (left (is_number i) (list_all is_settled ms) e)

  pub rest_of : (m : Mention N P) (ms : List (Mention N P)) → list_all is_settled (m ∷ ms) ≡ true → list_all is_settled ms ≡ true
  rest_of m ms e = right (is_settled m) (list_all is_settled ms) e

  catch_stays : (x : Catch N P) → list_all is_settled (catch_mentions x) ≡ true → catch_changed c x ≡ x
  catch_stays (CatchTag t l) e = two (λ v w. CatchTag v w) (first_stays Tags t (Refers Labels l ∷ []) e) (first_stays Labels l [] (rest_of (Refers Tags t) (Refers Labels l ∷ []) e))
  catch_stays (CatchTagRef t l) e = two (λ v w. CatchTagRef v w) (first_stays Tags t (Refers Labels l ∷ []) e) (first_stays Labels l [] (rest_of (Refers Tags t) (Refers Labels l ∷ []) e))
  catch_stays (CatchAll l) e = ap (λ v. CatchAll v) (first_stays Labels l [] e)
  catch_stays (CatchAllRef l) e = ap (λ v. CatchAllRef v) (first_stays Labels l [] e)

  handle_stays : (x : Handle N P) → list_all is_settled (handle_mentions x) ≡ true → handle_changed c x ≡ x
  handle_stays (OnLabel t l) e = two (λ v w. OnLabel v w) (first_stays Tags t (Refers Labels l ∷ []) e) (first_stays Labels l [] (rest_of (Refers Tags t) (Refers Labels l ∷ []) e))
  handle_stays (OnSwitch t) e = ap (λ v. OnSwitch v) (first_stays Tags t [] e)

  labels_stay : (is : List (Reference N P)) (ms : List (Mention N P)) → list_all is_settled (map (Refers Labels) is ++ ms) ≡ true → map (c.index Labels) is ≡ is
  labels_stay [] ms e = refl
  labels_stay (i ∷ is) ms e = two (λ v w. v ∷ w) (first_stays Labels i (map (Refers Labels) is ++ ms) e) (labels_stay is ms (rest_of (Refers Labels i) (map (Refers Labels) is ++ ms) e))

  member_stays : (t i : Reference N P) → is_number i ≡ true → c.member t i ≡ i
  member_stays t (ByNumber n p) e = k.member t n p
  member_stays t (ByName id) e = elim (false≢true e) [ ]

  -- the second of two indices
  second_stays : (s : Space) (i j : Reference N P) → list_all is_settled (second_mention s i j ∷ []) ≡ true → second_changed c s i j ≡ j
  second_stays Fields i j e = member_stays i j (left (is_number j) true e)
  second_stays Labels i j e = first_stays Labels j [] e
  second_stays Locals i j e = first_stays Locals j [] e
  second_stays Functions i j e = first_stays Functions j [] e
  second_stays Types i j e = first_stays Types j [] e
  second_stays Tables i j e = first_stays Tables j [] e
  second_stays Memories i j e = first_stays Memories j [] e
  second_stays Globals i j e = first_stays Globals j [] e
  second_stays Tags i j e = first_stays Tags j [] e
  second_stays Datas i j e = first_stays Datas j [] e
  second_stays Elems i j e = first_stays Elems j [] e

  pub stays_if : (s : Space) (o : Option (Reference N P)) → list_all is_settled (refers_if s o) ≡ true → option_map (c.index s) o ≡ o
  stays_if s o e = if_stays c k is_settled (λ t i. refl) s o e

  target_stays : (o : Option (MemArgTarget N P)) → list_all is_settled (map target_mention (option_to_list o)) ≡ true → option_map (target_changed c) o ≡ o
  target_stays None e = refl
  target_stays (Some (operand.Memory i)) e = ap (λ v. Some (operand.Memory v)) (first_stays Memories i [] e)
  target_stays (Some (operand.Array i)) e = ap (λ v. Some (operand.Array v)) (first_stays Types i [] e)

  mem_arg_stays : (m : MemArg N P) → list_all is_settled (mem_arg_mentions m) ≡ true → mem_arg_changed c m ≡ m
  mem_arg_stays m e = ap (λ v. record m { target = v }) (target_stays m.target e)

  pub ref_here : (r : RefType N P) → list_all is_settled (ref_mentions r) ≡ true → ref_changed c r ≡ r
  ref_here = ref_stays c k is_settled (λ s i. refl)

  vals_here : (ts : List (ValType N P)) → list_all is_settled (flat_map val_mentions ts) ≡ true → map (val_changed c) ts ≡ ts
  vals_here ts e = each is_settled val_mentions (val_changed c) (val_stays c k is_settled (λ s i. refl)) ts e

  both_stay : (o : OperandSyntax) (ij : Reference N P × Reference N P) → list_all is_settled (Refers (first_space o) ij.0 ∷ Refers (second_space o) ij.1 ∷ []) ≡ true → (c.index (first_space o) ij.0, c.index (second_space o) ij.1) ≡ ij
  both_stay o (i, j) e = two (λ v w. (v, w)) (first_stays (first_space o) i (Refers (second_space o) j ∷ []) e) (first_stays (second_space o) j [] (rest_of (Refers (first_space o) i) (Refers (second_space o) j ∷ []) e))

  operands_stay : (o : OperandSyntax) (x : Operands N P) → list_all is_settled (operand_mentions o x) ≡ true → operands_changed c o x ≡ x
  operands_stay o instr.NoOperands e = refl
  operands_stay o (instr.Label id) e = refl
  operands_stay o (instr.Block b) e = ap (λ v. instr.Block v) (block_stays b (left (is_settled (UsesInBlock b.type_use)) true e))
  operands_stay o (instr.TryTable t) e =
      two (λ v w. instr.TryTable (record { block = v; catches = w }))
      (block_stays t.block (left (is_settled (UsesInBlock t.block.type_use)) (list_all is_settled (flat_map catch_mentions t.catches)) e))
      (each is_settled catch_mentions (catch_changed c) catch_stays t.catches (rest_of (UsesInBlock t.block.type_use) (flat_map catch_mentions t.catches) e))
  operands_stay o (instr.One i) e = ap (λ v. instr.One v) (first_stays (first_space o) i [] e)
  operands_stay o (instr.Two i j) e =
      two (λ v w. instr.Two v w) (first_stays (first_space o) i (second_mention (second_space o) i j ∷ []) e) (second_stays (second_space o) i j (rest_of (Refers (first_space o) i) (second_mention (second_space o) i j ∷ []) e))
  operands_stay o (instr.Counted i n) e = ap (λ v. instr.Counted v n) (first_stays (first_space o) i [] e)
  operands_stay o (instr.LabelTable is i) e =
      two (λ v w. instr.LabelTable v w) (labels_stay is (Refers Labels i ∷ []) e) (first_stays Labels i [] (back is_settled (map (Refers Labels) is) (Refers Labels i ∷ []) e))
  operands_stay o (instr.Indirect x) e =
      two (λ v w. instr.Indirect (record { table = v; type_use = w }))
      (stays_if Tables x.table (front is_settled (refers_if Tables x.table) (Uses x.type_use ∷ []) e))
      (one_use x.type_use (back is_settled (refers_if Tables x.table) (Uses x.type_use ∷ []) e))
  operands_stay o (instr.Optional i) e = ap (λ v. instr.Optional v) (stays_if (first_space o) i e)
  operands_stay o (instr.OptionalTwo p) e = ap (λ v. instr.OptionalTwo v) (some is_settled (λ ij. Refers (first_space o) ij.0 ∷ Refers (second_space o) ij.1 ∷ []) (λ ij. (c.index (first_space o) ij.0, c.index (second_space o) ij.1)) (both_stay o) p e)
  operands_stay o (instr.OptionalThen i j) e =
      two (λ v w. instr.OptionalThen v w)
      (stays_if (first_space o) i (front is_settled (refers_if (first_space o) i) (Refers (second_space o) j ∷ []) e))
      (first_stays (second_space o) j [] (back is_settled (refers_if (first_space o) i) (Refers (second_space o) j ∷ []) e))
  operands_stay o (instr.Heap h) e = ap (λ v. instr.Heap v) (heap_stays c k is_settled (λ s i. refl) h e)
  operands_stay o (instr.Ref r) e = ap (λ v. instr.Ref v) (ref_here r e)
  operands_stay o (instr.Cast x) e =
      let after_label = rest_of (Refers Labels x.label) (ref_mentions x.source ++ ref_mentions x.target) e in
      ap (λ v. instr.Cast (record { label = v; source = ref_changed c x.source; target = ref_changed c x.target })) (first_stays Labels x.label (ref_mentions x.source ++ ref_mentions x.target) e)
      ∙ two (λ v w. instr.Cast (record { label = x.label; source = v; target = w })) (ref_here x.source (front is_settled (ref_mentions x.source) (ref_mentions x.target) after_label)) (ref_here x.target (back is_settled (ref_mentions x.source) (ref_mentions x.target) after_label))
  operands_stay o (instr.Integer z) e = refl
  operands_stay o (instr.Float text) e = refl
  operands_stay o (instr.Lanes v) e = refl
  operands_stay o (instr.Types ts) e = ap (λ v. instr.Types v) (some is_settled (λ vs. flat_map val_mentions vs) (map (val_changed c)) vals_here ts e)
  operands_stay o (instr.Lane n) e = refl
  operands_stay o (instr.Shuffle ns) e = refl
  operands_stay o (instr.Memory m) e = ap (λ v. instr.Memory v) (mem_arg_stays m e)
  operands_stay o (instr.MemoryLane m n) e = ap (λ v. instr.MemoryLane v n) (mem_arg_stays m e)
  operands_stay o (instr.Fence ordering) e = refl
  operands_stay o (instr.Ordered ordering x) e = ap (λ v. instr.Ordered ordering v) (operands_stay o x e)
  operands_stay o (instr.Resume i hs) e =
      two (λ v w. instr.Resume v w) (first_stays Types i (flat_map handle_mentions hs) e) (each is_settled handle_mentions (handle_changed c) handle_stays hs (rest_of (Refers Types i) (flat_map handle_mentions hs) e))
  operands_stay o (instr.ResumeThrow i t hs) e =
      let after_type = rest_of (Refers Types i) (Refers Tags t ∷ flat_map handle_mentions hs) e in
      ap (λ v. instr.ResumeThrow v (c.index Tags t) (map (handle_changed c) hs)) (first_stays Types i (Refers Tags t ∷ flat_map handle_mentions hs) e)
      ∙ two (λ v w. instr.ResumeThrow i v w) (first_stays Tags t (flat_map handle_mentions hs) after_type) (each is_settled handle_mentions (handle_changed c) handle_stays hs (rest_of (Refers Tags t) (flat_map handle_mentions hs) after_type))

  pub instr_stays : (i : Instruction N P) → list_all is_settled (instr_mentions i) ≡ true → instr_changed c i ≡ i
  instr_stays i e = ap (λ v. record i { operands = v }) (operands_stay (syntax_of i.head) i.operands e)
