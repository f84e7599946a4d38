-- Trees with other indices: what becomes of each index, wherever one stands; nothing else changes.
use Rattle.std.specs.Prelude.{List, [], ◌∷◌, map, Option, option_map}
use Rattle.wasm_encoder_base.specs.Table.{OperandSyntax, Space, Labels, Functions, Types, Tables, Memories, Tags, Fields}
use Rattle.wast_parser.specs.Identifiers.{Reference}
use Rattle.wast_names.specs.Walk.{threaded}
use Rattle.wast_field_syntax.specs.ValueTree.{HeapType, Abstract, Concrete, Exact, RefType, ValType, Number, Ref, StorageType, Packed, Value, FieldType, TableType, GlobalType}
use Rattle.wast_field_syntax.specs.TypeTree.{Local, Sig, InnerType, FuncType, StructType, ArrayType, ContType, TypeItem, TypeUse}
use Rattle.wast_field_syntax.specs.OperandTree.{MemArgTarget, MemArg, Handle, OnLabel, OnSwitch}
use Rattle.wast_field_syntax.specs.OperandTree as operand
use Rattle.wast_field_syntax.specs.TypedTree as typed
use Rattle.wast_field_syntax.specs.TypedTree.{Catch, CatchTag, CatchTagRef, CatchAll, CatchAllRef}
use Rattle.wast_field_syntax.specs.InstructionTree.{Operands, Instruction}
use Rattle.wast_field_syntax.specs.InstructionTree as instr
use Rattle.wast_imports.specs.ImportTree.{ExternType, OfFunc, OfExactFunc, OfTable, OfMemory, OfGlobal, OfTag, Item, ImportItems, Single, Group1, Group2}
use Rattle.wast_field_syntax.specs.FieldTree.{Expr, Function, Elements, Indices, Expressions, Defined, Imported, Func, Table, TableOf, Global, Tag, ElemMode, ActiveElem, DataMode, ActiveData, Field, TypeField, RecField, ImportField, Define, ExportField, StartField, ElemField, DataField}
use Rattle.wast_meaning.specs.Written.{space_of_kind}
use Rattle.wast_meaning.specs.Mentions.{first_space, second_space, syntax_of}

-- what becomes of indices of a space, of a field of the type that an index names, and of the indices of type uses
pub record Change (N P : Type 0) : Type 0 where
  pub index : Space → Reference N P → Reference N P
  pub member : (owner field : Reference N P) → Reference N P
  pub type_use : TypeUse N P → Option (Reference N P)
  pub block_use : TypeUse N P → Option (Reference N P)

-- outside of instructions; in constant expressions and in functions for an instruction after those before it, the nearest first
pub record Changes (N P : Type 0) : Type 0 where
  pub outside : Change N P
  pub in_constant : List (Instruction N P) → Instruction N P → Change N P
  pub in_function : Function N P → List (Instruction N P) → Instruction N P → Change N P

module _ {N P : Type 0} (c : Change N P) where
  -- TYPES
  abbrev pub heap_changed : HeapType N P → HeapType N P
  heap_changed (Abstract shared w) = Abstract shared w
  heap_changed (Concrete i) = Concrete (c.index Types i)
  heap_changed (Exact i) = Exact (c.index Types i)

  abbrev pub ref_changed : RefType N P → RefType N P
  ref_changed r = record { nullable = r.nullable; heap_type = heap_changed r.heap_type }

  abbrev pub val_changed : ValType N P → ValType N P
  val_changed (Number t) = Number t
  val_changed (Ref r) = Ref (ref_changed r)

  abbrev pub storage_changed : StorageType N P → StorageType N P
  storage_changed (Packed t) = Packed t
  storage_changed (Value t) = Value (val_changed t)

  abbrev pub field_type_changed : FieldType N P → FieldType N P
  field_type_changed t = record { mutable = t.mutable; storage = storage_changed t.storage }

  abbrev pub table_type_changed : TableType N P → TableType N P
  table_type_changed t = record { limits = t.limits; shared = t.shared; element = ref_changed t.element }

  abbrev pub global_type_changed : GlobalType N P → GlobalType N P
  global_type_changed t = record { val_type = val_changed t.val_type; mutable = t.mutable; shared = t.shared }

  abbrev pub local_changed : Local N P → Local N P
  local_changed l = record { id = l.id; given = l.given; val_type = val_changed l.val_type }

  abbrev pub sig_changed : Sig N P → Sig N P
  sig_changed s = record { params = map local_changed s.params; results = map val_changed s.results }

  abbrev pub inner_changed : InnerType N P → InnerType N P
  inner_changed (FuncType s) = FuncType (sig_changed s)
  inner_changed (StructType fs) = StructType (map (λ f. record { id = f.id; field_type = field_type_changed f.field_type }) fs)
  inner_changed (ArrayType t) = ArrayType (field_type_changed t)
  inner_changed (ContType i) = ContType (c.index Types i)

  abbrev pub type_changed : TypeItem N P → TypeItem N P
  type_changed t = record {
    place = t.place;
    id = t.id;
    given = t.given;
    definition = record {
      is_final = t.definition.is_final;
      supertype = option_map (c.index Types) t.definition.supertype;
      describes = option_map (c.index Types) t.definition.describes;
      descriptor = option_map (c.index Types) t.definition.descriptor;
      comp = record { shared = t.definition.comp.shared; inner = inner_changed t.definition.comp.inner };
    };
  }

  abbrev pub use_changed : TypeUse N P → TypeUse N P
  use_changed u = record { index = c.type_use u; inline = option_map sig_changed u.inline }

  -- INSTRUCTIONS
  abbrev pub block_changed : typed.Block N P → typed.Block N P
  block_changed b = record { label = b.label; type_use = record { index = c.block_use b.type_use; inline = option_map sig_changed b.type_use.inline } }

  abbrev pub catch_changed : Catch N P → Catch N P
  catch_changed (CatchTag t l) = CatchTag (c.index Tags t) (c.index Labels l)
  catch_changed (CatchTagRef t l) = CatchTagRef (c.index Tags t) (c.index Labels l)
  catch_changed (CatchAll l) = CatchAll (c.index Labels l)
  catch_changed (CatchAllRef l) = CatchAllRef (c.index Labels l)

  abbrev pub handle_changed : Handle N P → Handle N P
  handle_changed (OnLabel t l) = OnLabel (c.index Tags t) (c.index Labels l)
  handle_changed (OnSwitch t) = OnSwitch (c.index Tags t)

  abbrev pub target_changed : MemArgTarget N P → MemArgTarget N P
  target_changed (operand.Memory i) = operand.Memory (c.index Memories i)
  target_changed (operand.Array i) = operand.Array (c.index Types i)

  abbrev pub mem_arg_changed : MemArg N P → MemArg N P
  mem_arg_changed m = record { target = option_map target_changed m.target; ordering = m.ordering; offset = m.offset; align = m.align }

  abbrev pub second_changed : Space → Reference N P → Reference N P → Reference N P
  second_changed Fields i j = c.member i j
  second_changed s i j = c.index s j

  abbrev pub operands_changed : OperandSyntax → Operands N P → Operands N P
  operands_changed o (instr.Block b) = instr.Block (block_changed b)
  operands_changed o (instr.TryTable t) = instr.TryTable (record { block = block_changed t.block; catches = map catch_changed t.catches })
  operands_changed o (instr.One i) = instr.One (c.index (first_space o) i)
  operands_changed o (instr.Two i j) = instr.Two (c.index (first_space o) i) (second_changed (second_space o) i j)
  operands_changed o (instr.Counted i n) = instr.Counted (c.index (first_space o) i) n
  operands_changed o (instr.LabelTable is i) = instr.LabelTable (map (c.index Labels) is) (c.index Labels i)
  operands_changed o (instr.Indirect x) = instr.Indirect (record { table = option_map (c.index Tables) x.table; type_use = use_changed x.type_use })
  operands_changed o (instr.Optional i) = instr.Optional (option_map (c.index (first_space o)) i)
  operands_changed o (instr.OptionalTwo p) = instr.OptionalTwo (option_map (λ ij. (c.index (first_space o) ij.0, c.index (second_space o) ij.1)) p)
  operands_changed o (instr.OptionalThen i j) = instr.OptionalThen (option_map (c.index (first_space o)) i) (c.index (second_space o) j)
  operands_changed o (instr.Heap h) = instr.Heap (heap_changed h)
  operands_changed o (instr.Ref r) = instr.Ref (ref_changed r)
  operands_changed o (instr.Cast x) = instr.Cast (record { label = c.index Labels x.label; source = ref_changed x.source; target = ref_changed x.target })
  operands_changed o (instr.Types ts) = instr.Types (option_map (map val_changed) ts)
  operands_changed o (instr.Memory m) = instr.Memory (mem_arg_changed m)
  operands_changed o (instr.MemoryLane m n) = instr.MemoryLane (mem_arg_changed m) n
  operands_changed o (instr.Ordered ordering x) = instr.Ordered ordering (operands_changed o x)
  operands_changed o (instr.Resume i hs) = instr.Resume (c.index Types i) (map handle_changed hs)
  operands_changed o (instr.ResumeThrow i t hs) = instr.ResumeThrow (c.index Types i) (c.index Tags t) (map handle_changed hs)
  operands_changed o x = x

  abbrev pub instr_changed : Instruction N P → Instruction N P
  instr_changed i = record { head = i.head; operands = operands_changed (syntax_of i.head) i.operands }

  -- WHAT IS IMPORTED
  abbrev pub extern_changed : ExternType N P → ExternType N P
  extern_changed (OfFunc u) = OfFunc (use_changed u)
  extern_changed (OfExactFunc u) = OfExactFunc (use_changed u)
  extern_changed (OfTable t) = OfTable (table_type_changed t)
  extern_changed (OfMemory t) = OfMemory t
  extern_changed (OfGlobal t) = OfGlobal (global_type_changed t)
  extern_changed (OfTag u) = OfTag (use_changed u)

  abbrev pub item_changed : Item N P → Item N P
  item_changed i = record { place = i.place; id = i.id; given = i.given; extern_type = extern_changed i.extern_type }

  abbrev pub imports_changed : ImportItems N P → ImportItems N P
  imports_changed (Single name i) = Single name (item_changed i)
  imports_changed (Group1 is) = Group1 (map (λ i. (i.0, item_changed i.1)) is)
  imports_changed (Group2 names i) = Group2 names (item_changed i)

-- each instruction after those before it
abbrev pub instrs_changed : {N P : Type 0} → (List (Instruction N P) → Instruction N P → Change N P) →
    List (Instruction N P) → List (Instruction N P) → List (Instruction N P)
instrs_changed change before is = threaded (λ earlier i. instr_changed (change earlier i) i) (λ earlier i. i ∷ earlier) before is

module _ {N P : Type 0} (cs : Changes N P) where
  -- FIELDS
  abbrev pub constant_changed : Expr N P → Expr N P
  constant_changed e = record { instrs = instrs_changed cs.in_constant [] e.instrs; hints = e.hints }

  abbrev pub func_changed : Function N P → Function N P
  func_changed f = record {
    type_use = use_changed cs.outside f.type_use;
    locals = map (local_changed cs.outside) f.locals;
    body = record { instrs = instrs_changed (cs.in_function f) [] f.body.instrs; hints = f.body.hints };
  }

  abbrev pub elements_changed : Elements N P → Elements N P
  elements_changed (Indices is) = Indices (map (cs.outside.index Functions) is)
  elements_changed (Expressions t es) = Expressions (ref_changed cs.outside t) (map constant_changed es)

  abbrev pub defined_changed : Defined N P → Defined N P
  defined_changed (Imported from name t) = Imported from name (extern_changed cs.outside t)
  defined_changed (Func f) = Func (func_changed f)
  defined_changed (Table t init) = Table (table_type_changed cs.outside t) (option_map constant_changed init)
  defined_changed (TableOf wide t es) = TableOf wide (ref_changed cs.outside t) (elements_changed es)
  defined_changed (Global t init) = Global (global_type_changed cs.outside t) (constant_changed init)
  defined_changed (Tag u) = Tag (use_changed cs.outside u)
  defined_changed d = d

  abbrev pub elem_mode_changed : ElemMode N P → ElemMode N P
  elem_mode_changed (ActiveElem t offset) = ActiveElem (option_map (cs.outside.index Tables) t) (constant_changed offset)
  elem_mode_changed m = m

  abbrev pub data_mode_changed : DataMode N P → DataMode N P
  data_mode_changed (ActiveData m offset) = ActiveData (option_map (cs.outside.index Memories) m) (constant_changed offset)
  data_mode_changed m = m

  abbrev pub field_changed : Field N P → Field N P
  field_changed (TypeField t) = TypeField (type_changed cs.outside t)
  field_changed (RecField r) = RecField (record { place = r.place; types = map (type_changed cs.outside) r.types })
  field_changed (ImportField i) = ImportField (record { place = i.place; from = i.from; items = imports_changed cs.outside i.items })
  field_changed (Define d) = Define (record d { defined = defined_changed d.defined })
  field_changed (ExportField e) = ExportField (record e { item = cs.outside.index (space_of_kind e.kind) e.item })
  field_changed (StartField s) = StartField (record { place = s.place; func = cs.outside.index Functions s.func })
  field_changed (ElemField e) = ElemField (record e { mode = elem_mode_changed e.mode; elements = elements_changed e.elements })
  field_changed (DataField d) = DataField (record d { mode = data_mode_changed d.mode })
  field_changed f = f
