-- Settled fields stay as they are: numbering them changes nothing.
use Rattle.std.proofs.Common.{◌≡◌, ℕ, Bool, true, List, [], ◌∷◌, ◌++◌, map, Option, Some, None, refl, sym, ◌∙◌, ap}
use Rattle.std.specs.Prelude.{◌&&◌, ◌||◌, not, is_some, unwrap_or, option_map, option_to_list}
use Rattle.std.specs.List.{flat_map, list_all}
use Rattle.std.proofs.lemmas.Bool.{false≢true}
use Rattle.std.proofs.lemmas.Grind.{flat_map-append}
use Rattle.wasm_encoder_base.specs.Table.{Space, Functions, Types, Tables, Memories}
use Rattle.wast_parser.specs.Identifiers.{Reference, ByNumber, ByName}
use Rattle.wast_names.specs.Space as names
use Rattle.wast_field_syntax.specs.ValueTree.{RefType, TableType, GlobalType}
use Rattle.wast_field_syntax.specs.InstructionTree.{Instruction}
use Rattle.wast_imports.specs.ImportTree.{ExternType, OfFunc, OfExactFunc, OfTable, OfMemory, OfGlobal, OfTag, Item, ImportItems, Single, Group1, Group2}
use Rattle.wast_field_syntax.specs.FieldTree.{Expr, Function, Elements, Indices, Expressions, Defined, Imported, Func, Table, TableOf, Memory, MemoryOf, Global, Tag, ElemMode, PassiveElem, DeclaredElem, ActiveElem, DataMode, PassiveData, ActiveData, Field, TypeField, RecField, ImportField, Define, ExportField, StartField, ElemField, DataField, CustomField}
use Rattle.wast_meaning.specs.Written.{space_of_kind}
use Rattle.wast_meaning.specs.Mentions.{Mention, Refers, Uses, Part, Constant, Body, ref_mentions, val_mentions, local_mentions, type_mentions, refers_if, instr_mentions, expr_mentions, extern_mentions, import_mentions, says, elements_parts, defined_parts, elem_mode_parts, data_mode_parts, part_mentions, field_mentions}
use Rattle.wast_meaning.specs.Implied.{no_sig, is_short}
use Rattle.wast_meaning.specs.Scope.{Scope, scope_of, scope_at, with_locals, locals_of}
use Rattle.wast_meaning.specs.Changed.{Change, Changes, table_type_changed, global_type_changed, local_changed, type_changed, ref_changed, extern_changed, item_changed, imports_changed, instrs_changed, constant_changed, func_changed, elements_changed, defined_changed, elem_mode_changed, data_mode_changed, field_changed}
use Rattle.wast_meaning.specs.Numbered.{numbering, numberings, numbered}
use Rattle.wast_meaning.specs.Settled.{has_number, is_settled, are_settled}
use Rattle.wast_meaning.proofs.Settled.{left, right, front, back, each, Keeps, val_stays, locals_stay, type_stays, use_stays, one_use, first_stays, rest_of, stays_if, ref_here, two, instr_stays}

pub record KeepsAll {N P : Type 0} (cs : Changes N P) : Type 0 where
  pub outside : Keeps cs.outside
  pub in_constant : (before : List (Instruction N P)) (i : Instruction N P) → Keeps (cs.in_constant before i)
  pub in_function : (f : Function N P) (before : List (Instruction N P)) (i : Instruction N P) → Keeps (cs.in_function f before i)

module _ {N P : Type 0} where
  pub said_parts : (ms : List (Mention N P)) → flat_map part_mentions (says ms) ≡ ms
  said_parts [] = refl
  said_parts (m ∷ ms) = ap (λ v. m ∷ v) (said_parts ms)

  pub constant_parts : (es : List (Expr N P)) → flat_map part_mentions (map Constant es) ≡ flat_map expr_mentions es
  constant_parts [] = refl
  constant_parts (e ∷ es) = ap (λ v. expr_mentions e ++ v) (constant_parts es)

  abbrev All : List (Part N P) → Type 0
  All ps = list_all is_settled (flat_map part_mentions ps) ≡ true

  said_all : (ms : List (Mention N P)) → All (says ms) → list_all is_settled ms ≡ true
  said_all ms e = ap (list_all is_settled) (sym (said_parts ms)) ∙ e

  constants_all : (es : List (Expr N P)) → All (map Constant es) → list_all is_settled (flat_map expr_mentions es) ≡ true
  constants_all es e = ap (list_all is_settled) (sym (constant_parts es)) ∙ e

  front_all : (ps qs : List (Part N P)) → All (ps ++ qs) → All ps
  front_all ps qs e = front is_settled (flat_map part_mentions ps) (flat_map part_mentions qs) (ap (list_all is_settled) (sym (flat_map-append part_mentions ps qs)) ∙ e)

  back_all : (ps qs : List (Part N P)) → All (ps ++ qs) → All qs
  back_all ps qs e = back is_settled (flat_map part_mentions ps) (flat_map part_mentions qs) (ap (list_all is_settled) (sym (flat_map-append part_mentions ps qs)) ∙ e)

  constant_all : (e : Expr N P) → All (Constant e ∷ []) → list_all is_settled (expr_mentions e) ≡ true
  constant_all e h = front is_settled (expr_mentions e) [] h

  instrs_stay : (change : List (Instruction N P) → Instruction N P → Change N P) → ((before : List (Instruction N P)) (i : Instruction N P) → Keeps (change before i)) →
      (before is : List (Instruction N P)) → list_all is_settled (flat_map instr_mentions is) ≡ true → instrs_changed change before is ≡ is
  instrs_stay change k before [] e = refl
  instrs_stay change k before (i ∷ is) e =
      two (λ v w. v ∷ w)
      (instr_stays (change before i) (k before i) i (front is_settled (instr_mentions i) (flat_map instr_mentions is) e))
      (instrs_stay change k (i ∷ before) is (back is_settled (instr_mentions i) (flat_map instr_mentions is) e))

module _ {N P : Type 0} (cs : Changes N P) (k : KeepsAll cs) where
  constant_stays : (e : Expr N P) → list_all is_settled (expr_mentions e) ≡ true → constant_changed cs e ≡ e
  constant_stays e h = ap (λ v. record e { instrs = v }) (instrs_stay cs.in_constant k.in_constant [] e.instrs h)

  func_stays : (f : Function N P) → All (Body f ∷ []) → func_changed cs f ≡ f
  func_stays f h =
      let whole = front is_settled (Uses f.type_use ∷ local_mentions f.locals ++ expr_mentions f.body) [] h in
      let after_use = rest_of cs.outside k.outside (Uses f.type_use) (local_mentions f.locals ++ expr_mentions f.body) whole in
      ap (λ v. record { type_use = v; locals = map (local_changed cs.outside) f.locals; body = record { instrs = instrs_changed (cs.in_function f) [] f.body.instrs; hints = f.body.hints } })
      (use_stays cs.outside k.outside f.type_use (left (is_settled (Uses f.type_use)) (list_all is_settled (local_mentions f.locals ++ expr_mentions f.body)) whole))
      ∙ ap (λ v. record f { locals = v; body = record { instrs = instrs_changed (cs.in_function f) [] f.body.instrs; hints = f.body.hints } })
      (locals_stay cs.outside k.outside is_settled (λ s i. refl) f.locals (front is_settled (local_mentions f.locals) (expr_mentions f.body) after_use))
      ∙ ap (λ v. record f { body = record { instrs = v; hints = f.body.hints } })
      (instrs_stay (cs.in_function f) (k.in_function f) [] f.body.instrs (back is_settled (local_mentions f.locals) (expr_mentions f.body) after_use))

  ref_said : (r : RefType N P) → All (says (ref_mentions r)) → ref_changed cs.outside r ≡ r
  ref_said r h = ref_here cs.outside k.outside r (said_all (ref_mentions r) h)

  table_stays : (t : TableType N P) → list_all is_settled (ref_mentions t.element) ≡ true → table_type_changed cs.outside t ≡ t
  table_stays t h = ap (λ v. record t { element = v }) (ref_here cs.outside k.outside t.element h)

  global_stays : (t : GlobalType N P) → list_all is_settled (val_mentions t.val_type) ≡ true → global_type_changed cs.outside t ≡ t
  global_stays t h = ap (λ v. record t { val_type = v }) (val_stays cs.outside k.outside is_settled (λ s i. refl) t.val_type h)

  extern_stays : (t : ExternType N P) → list_all is_settled (extern_mentions t) ≡ true → extern_changed cs.outside t ≡ t
  extern_stays (OfFunc u) h = ap (λ v. OfFunc v) (one_use cs.outside k.outside u h)
  extern_stays (OfExactFunc u) h = ap (λ v. OfExactFunc v) (one_use cs.outside k.outside u h)
  extern_stays (OfTable t) h = ap (λ v. OfTable v) (table_stays t h)
  extern_stays (OfMemory t) h = refl
  extern_stays (OfGlobal t) h = ap (λ v. OfGlobal v) (global_stays t h)
  extern_stays (OfTag u) h = ap (λ v. OfTag v) (one_use cs.outside k.outside u h)

  item_stays : (i : Item N P) → list_all is_settled (extern_mentions i.extern_type) ≡ true → item_changed cs.outside i ≡ i
  item_stays i h = ap (λ v. record i { extern_type = v }) (extern_stays i.extern_type h)

  member_stays : (i : List ℕ × Item N P) → list_all is_settled (extern_mentions i.1.extern_type) ≡ true → (i.0, item_changed cs.outside i.1) ≡ i
  member_stays (name, i) h = ap (λ v. (name, v)) (item_stays i h)

  imports_stay : (is : ImportItems N P) → list_all is_settled (import_mentions is) ≡ true → imports_changed cs.outside is ≡ is
  imports_stay (Single name i) h = ap (λ v. Single name v) (item_stays i h)
  imports_stay (Group1 is) h = ap (λ v. Group1 v) (each is_settled (λ i. extern_mentions i.1.extern_type) (λ i. (i.0, item_changed cs.outside i.1)) member_stays is h)
  imports_stay (Group2 names i) h = ap (λ v. Group2 names v) (item_stays i h)

  indices_stay : (s : Space) (is : List (Reference N P)) → list_all is_settled (map (Refers s) is) ≡ true → map (cs.outside.index s) is ≡ is
  indices_stay s [] h = refl
  indices_stay s (i ∷ is) h =
      two (λ v w. v ∷ w) (first_stays cs.outside k.outside s i (map (Refers s) is) h) (indices_stay s is (rest_of cs.outside k.outside (Refers s i) (map (Refers s) is) h))

  elements_stay : (es : Elements N P) → All (elements_parts es) → elements_changed cs es ≡ es
  elements_stay (Indices is) h = ap (λ v. Indices v) (indices_stay Functions is (said_all (map (Refers Functions) is) h))
  elements_stay (Expressions t es) h =
      two (λ v w. Expressions v w) (ref_said t (front_all (says (ref_mentions t)) (map Constant es) h))
      (each is_settled expr_mentions (constant_changed cs) constant_stays es (constants_all es (back_all (says (ref_mentions t)) (map Constant es) h)))

  init_stays : (o : Option (Expr N P)) → All (map Constant (option_to_list o)) → option_map (constant_changed cs) o ≡ o
  init_stays None h = refl
  init_stays (Some e) h = ap (λ v. Some v) (constant_stays e (constant_all e h))

  defined_stays : (d : Defined N P) → All (defined_parts d) → defined_changed cs d ≡ d
  defined_stays (Imported from name t) h = ap (λ v. Imported from name v) (extern_stays t (said_all (extern_mentions t) h))
  defined_stays (Func f) h = ap (λ v. Func v) (func_stays f h)
  defined_stays (Table t init) h =
      two (λ v w. Table v w) (table_stays t (said_all (ref_mentions t.element) (front_all (says (ref_mentions t.element)) (map Constant (option_to_list init)) h)))
      (init_stays init (back_all (says (ref_mentions t.element)) (map Constant (option_to_list init)) h))
  defined_stays (TableOf wide t es) h =
      two (λ v w. TableOf wide v w) (ref_said t (front_all (says (ref_mentions t)) (elements_parts es) h)) (elements_stay es (back_all (says (ref_mentions t)) (elements_parts es) h))
  defined_stays (Memory t) h = refl
  defined_stays (MemoryOf wide page vs) h = refl
  defined_stays (Global t init) h =
      two (λ v w. Global v w) (global_stays t (said_all (val_mentions t.val_type) (front_all (says (val_mentions t.val_type)) (Constant init ∷ []) h)))
      (constant_stays init (constant_all init (back_all (says (val_mentions t.val_type)) (Constant init ∷ []) h)))
  defined_stays (Tag u) h = ap (λ v. Tag v) (one_use cs.outside k.outside u h)

  elem_mode_stays : (m : ElemMode N P) → All (elem_mode_parts m) → elem_mode_changed cs m ≡ m
  elem_mode_stays PassiveElem h = refl
  elem_mode_stays DeclaredElem h = refl
  elem_mode_stays (ActiveElem t offset) h =
      two (λ v w. ActiveElem v w) (stays_if cs.outside k.outside Tables t (said_all (refers_if Tables t) (front_all (says (refers_if Tables t)) (Constant offset ∷ []) h)))
      (constant_stays offset (constant_all offset (back_all (says (refers_if Tables t)) (Constant offset ∷ []) h)))

  data_mode_stays : (m : DataMode N P) → All (data_mode_parts m) → data_mode_changed cs m ≡ m
  data_mode_stays PassiveData h = refl
  data_mode_stays (ActiveData t offset) h =
      two (λ v w. ActiveData v w) (stays_if cs.outside k.outside Memories t (said_all (refers_if Memories t) (front_all (says (refers_if Memories t)) (Constant offset ∷ []) h)))
      (constant_stays offset (constant_all offset (back_all (says (refers_if Memories t)) (Constant offset ∷ []) h)))

  pub field_stays : (f : Field N P) → list_all is_settled (field_mentions f) ≡ true → field_changed cs f ≡ f
  field_stays (TypeField t) h = ap (λ v. TypeField v) (type_stays cs.outside k.outside is_settled (λ s i. refl) t (said_all (type_mentions t) h))
  field_stays (RecField r) h =
      ap (λ v. RecField (record r { types = v })) (each is_settled type_mentions (type_changed cs.outside) (type_stays cs.outside k.outside is_settled (λ s i. refl)) r.types (said_all (flat_map type_mentions r.types) h))
  field_stays (ImportField i) h = ap (λ v. ImportField (record i { items = v })) (imports_stay i.items (said_all (import_mentions i.items) h))
  field_stays (Define d) h = ap (λ v. Define (record d { defined = v })) (defined_stays d.defined h)
  field_stays (ExportField e) h = ap (λ v. ExportField (record e { item = v })) (first_stays cs.outside k.outside (space_of_kind e.kind) e.item [] h)
  field_stays (StartField s) h = ap (λ v. StartField (record s { func = v })) (first_stays cs.outside k.outside Functions s.func [] h)
  field_stays (ElemField e) h =
      two (λ v w. ElemField (record e { mode = v; elements = w })) (elem_mode_stays e.mode (front_all (elem_mode_parts e.mode) (elements_parts e.elements) h))
      (elements_stay e.elements (back_all (elem_mode_parts e.mode) (elements_parts e.elements) h))
  field_stays (DataField d) h = ap (λ v. DataField (record d { mode = v })) (data_mode_stays d.mode h)
  field_stays (CustomField x) h = refl

-- NUMBERS
module _ {N P : Type 0} where
  index_kept : (s : Scope N P) (i : Option (Reference N P)) → has_number i ≡ true → option_map (names.resolved (s.spaces Types)) i ≡ i
  index_kept s None h = elim (false≢true h) [ ]
  index_kept s (Some (ByNumber n p)) h = refl
  index_kept s (Some (ByName id)) h = elim (false≢true h) [ ]

  block_kept : (s : Scope N P) (i : Option (Reference N P)) (short : Bool) → (has_number i || (not (is_some i) && short)) ≡ true → option_map (names.resolved (s.spaces Types)) i ≡ i
  block_kept s None short h = refl
  block_kept s (Some (ByNumber n p)) short h = refl
  block_kept s (Some (ByName id)) short h = elim (false≢true h) [ ]

  numbering_keeps : (s : Scope N P) → Keeps (numbering s)
  numbering_keeps s = record {
    index = λ space n p. refl;
    member = λ t n p. refl;
    type_use = λ u h. index_kept s u.index h;
    block_use = λ u h. block_kept s u.index (is_short (unwrap_or u.inline no_sig)) h;
  }

  all_stay : (h : Field N P → Field N P) → ((f : Field N P) → list_all is_settled (field_mentions f) ≡ true → h f ≡ f) → (fs : List (Field N P)) → are_settled fs ≡ true → map h fs ≡ fs
  all_stay h same [] e = refl
  all_stay h same (f ∷ fs) e =
      two (λ v w. v ∷ w) (same f (left (list_all is_settled (field_mentions f)) (are_settled fs) e)) (all_stay h same fs (right (list_all is_settled (field_mentions f)) (are_settled fs) e))

pub numbered_stays : {N P : Type 0} (eq : N → N → Bool) (fs : List (Field N P)) → are_settled fs ≡ true → numbered eq fs ≡ fs
numbered_stays eq fs e = all_stay (field_changed (numberings eq (scope_of eq fs))) (field_stays (numberings eq (scope_of eq fs)) keeps) fs e
  where
    keeps : KeepsAll (numberings eq (scope_of eq fs))
    keeps = record {
      outside = numbering_keeps (scope_of eq fs);
      in_constant = λ before i. numbering_keeps (scope_at eq (scope_of eq fs) before i);
      in_function = λ f before i. numbering_keeps (scope_at eq (with_locals eq (scope_of eq fs) (locals_of (scope_of eq fs) f)) before i);
    }
