-- What trees say of names: for each tree its mentions of names, in the order in which they are looked up.
use Rattle.std.specs.Prelude.{ℕ, true, false, List, [], ◌∷◌, ◌++◌, map, Option, option_to_list}
use Rattle.std.specs.List.{flat_map}
use Rattle.wasm_encoder_base.specs.Table.{OperandSyntax, same_text, Space, Labels, Functions, Types, Tables, Memories, Tags, Fields}
use Rattle.wasm_encoder_base.specs.OperandSyntax as syntax
use Rattle.wasm_encoder_base.specs.Uncovered.{Uncovered, UncoveredSyntax, uncovered}
use Rattle.wasm_encoder_base.specs.Uncovered as refused
use Rattle.wast_parser.specs.Identifiers.{Named, Reference}
use Rattle.wast_field_syntax.specs.ValueTree.{HeapType, Abstract, Concrete, Exact, RefType, ValType, Number, Ref, StorageType, Packed, Value}
use Rattle.wast_field_syntax.specs.TypeTree.{Local, Sig, InnerType, FuncType, StructType, ArrayType, ContType, TypeItem, TypeUse}
use Rattle.wast_field_syntax.specs.OperandTree.{MemArgTarget, MemArg, Handle, OnLabel, OnSwitch}
use Rattle.wast_field_syntax.specs.OperandTree as operand
use Rattle.wast_field_syntax.specs.TypedTree.{Catch, CatchTag, CatchTagRef, CatchAll, CatchAllRef}
use Rattle.wast_mnemonics.specs.Heads.{Head, Listed, Unlisted}
pub use Rattle.wast_mnemonics.specs.Words.{first_space, second_space}
use Rattle.wast_field_syntax.specs.InstructionTree.{Operands, Instruction}
use Rattle.wast_field_syntax.specs.InstructionTree as instr
use Rattle.wast_imports.specs.ImportTree.{ExternType, OfFunc, OfExactFunc, OfTable, OfMemory, OfGlobal, OfTag, ImportItems, Single, Group1, Group2}
use Rattle.wast_field_syntax.specs.FieldTree.{Expr, Function, Elements, Indices, Expressions, Defined, Imported, Func, Table, TableOf, Memory, MemoryOf, Global, Tag, ElemMode, ActiveElem, DataMode, ActiveData, Field, TypeField, RecField, ImportField, Define, ExportField, StartField, ElemField, DataField, CustomField}
use Rattle.wast_meaning.specs.Written.{space_of_kind}

pub data Mention (N P : Type 0) : Type 0 where
  -- an index of a space (6.6.1)
  Refers : Space → Reference N P → Mention N P
  -- a field of the struct type that the index before it names
  Member : (owner field : Reference N P) → Mention N P
  -- a type use (6.6, type uses), and that of a block (6.5, control instructions)
  Uses : TypeUse N P → Mention N P
  UsesInBlock : TypeUse N P → Mention N P
  -- the name of a block, repeated where it ends, or after `else`
  Repeats : Named N P → Mention N P

-- A field is parts in order: what it says by itself, constant expressions, and a function.
pub data Part (N P : Type 0) : Type 0 where
  Says : Mention N P → Part N P
  Constant : Expr N P → Part N P
  Body : Function N P → Part N P

-- what stands after the mnemonic of an instruction that is refused as uncovered, apart from an ordering
abbrev pub listed_syntax : UncoveredSyntax → OperandSyntax
listed_syntax (refused.Listed o) = o
listed_syntax (refused.Ordered o) = o
listed_syntax _ = syntax.Plain

abbrev pub syntax_among : List ℕ → List Uncovered → OperandSyntax
syntax_among w [] = syntax.Plain
syntax_among w (u ∷ us) = elim (same_text w u.mnemonic) [ true ↦ listed_syntax u.operands | false ↦ syntax_among w us ]

abbrev pub syntax_of : Head → OperandSyntax
syntax_of (Listed e) = e.operands
syntax_of (Unlisted mnemonic) = syntax_among mnemonic uncovered

module _ {N P : Type 0} where
  abbrev pub refers_if : Space → Option (Reference N P) → List (Mention N P)
  refers_if s i = map (Refers s) (option_to_list i)

  -- TYPES (6.4)
  abbrev pub heap_mentions : HeapType N P → List (Mention N P)
  heap_mentions (Abstract shared w) = []
  heap_mentions (Concrete i) = Refers Types i ∷ []
  heap_mentions (Exact i) = Refers Types i ∷ []

  abbrev pub ref_mentions : RefType N P → List (Mention N P)
  ref_mentions r = heap_mentions r.heap_type

  abbrev pub val_mentions : ValType N P → List (Mention N P)
  val_mentions (Number t) = []
  val_mentions (Ref r) = ref_mentions r

  abbrev pub storage_mentions : StorageType N P → List (Mention N P)
  storage_mentions (Packed t) = []
  storage_mentions (Value t) = val_mentions t

  abbrev pub local_mentions : List (Local N P) → List (Mention N P)
  local_mentions ls = flat_map (λ l. val_mentions l.val_type) ls

  abbrev pub sig_mentions : Sig N P → List (Mention N P)
  sig_mentions s = local_mentions s.params ++ flat_map val_mentions s.results

  abbrev pub inner_mentions : InnerType N P → List (Mention N P)
  inner_mentions (FuncType s) = sig_mentions s
  inner_mentions (StructType fs) = flat_map (λ f. storage_mentions f.field_type.storage) fs
  inner_mentions (ArrayType t) = storage_mentions t.storage
  inner_mentions (ContType i) = Refers Types i ∷ []

  abbrev pub type_mentions : TypeItem N P → List (Mention N P)
  type_mentions t =
      refers_if Types t.definition.supertype
      ++ refers_if Types t.definition.describes
      ++ refers_if Types t.definition.descriptor
      ++ inner_mentions t.definition.comp.inner

  -- what a type use says itself: its index, then its signature
  abbrev pub use_mentions : TypeUse N P → List (Mention N P)
  use_mentions u = refers_if Types u.index ++ flat_map sig_mentions (option_to_list u.inline)

  -- INSTRUCTIONS (6.5): operands as written, but the table of an indirect call before its type use
  -- the second of two indices
  abbrev pub second_mention : Space → Reference N P → Reference N P → Mention N P
  second_mention Fields i j = Member i j
  second_mention s i j = Refers s j

  abbrev pub catch_mentions : Catch N P → List (Mention N P)
  catch_mentions (CatchTag t l) = Refers Tags t ∷ Refers Labels l ∷ []
  catch_mentions (CatchTagRef t l) = Refers Tags t ∷ Refers Labels l ∷ []
  catch_mentions (CatchAll l) = Refers Labels l ∷ []
  catch_mentions (CatchAllRef l) = Refers Labels l ∷ []

  abbrev pub handle_mentions : Handle N P → List (Mention N P)
  handle_mentions (OnLabel t l) = Refers Tags t ∷ Refers Labels l ∷ []
  handle_mentions (OnSwitch t) = Refers Tags t ∷ []

  abbrev pub target_mention : MemArgTarget N P → Mention N P
  target_mention (operand.Memory i) = Refers Memories i
  target_mention (operand.Array i) = Refers Types i

  abbrev pub mem_arg_mentions : MemArg N P → List (Mention N P)
  mem_arg_mentions m = map target_mention (option_to_list m.target)

  abbrev pub operand_mentions : OperandSyntax → Operands N P → List (Mention N P)
  operand_mentions o (instr.Label id) = map Repeats (option_to_list id)
  operand_mentions o (instr.Block b) = UsesInBlock b.type_use ∷ []
  operand_mentions o (instr.TryTable t) = UsesInBlock t.block.type_use ∷ flat_map catch_mentions t.catches
  operand_mentions o (instr.One i) = Refers (first_space o) i ∷ []
  operand_mentions o (instr.Two i j) = Refers (first_space o) i ∷ second_mention (second_space o) i j ∷ []
  operand_mentions o (instr.Counted i n) = Refers (first_space o) i ∷ []
  operand_mentions o (instr.LabelTable is i) = map (Refers Labels) is ++ Refers Labels i ∷ []
  operand_mentions o (instr.Indirect c) = refers_if Tables c.table ++ Uses c.type_use ∷ []
  operand_mentions o (instr.Optional i) = refers_if (first_space o) i
  operand_mentions o (instr.OptionalTwo p) = flat_map (λ ij. Refers (first_space o) ij.0 ∷ Refers (second_space o) ij.1 ∷ []) (option_to_list p)
  operand_mentions o (instr.OptionalThen i j) = refers_if (first_space o) i ++ Refers (second_space o) j ∷ []
  operand_mentions o (instr.Heap h) = heap_mentions h
  operand_mentions o (instr.Ref r) = ref_mentions r
  operand_mentions o (instr.Cast c) = Refers Labels c.label ∷ ref_mentions c.source ++ ref_mentions c.target
  operand_mentions o (instr.Types ts) = flat_map (λ vs. flat_map val_mentions vs) (option_to_list ts)
  operand_mentions o (instr.Memory m) = mem_arg_mentions m
  operand_mentions o (instr.MemoryLane m n) = mem_arg_mentions m
  operand_mentions o (instr.Ordered ordering x) = operand_mentions o x
  operand_mentions o (instr.Resume i hs) = Refers Types i ∷ flat_map handle_mentions hs
  operand_mentions o (instr.ResumeThrow i t hs) = Refers Types i ∷ Refers Tags t ∷ flat_map handle_mentions hs
  operand_mentions o _ = []

  abbrev pub instr_mentions : Instruction N P → List (Mention N P)
  instr_mentions i = operand_mentions (syntax_of i.head) i.operands

  abbrev pub expr_mentions : Expr N P → List (Mention N P)
  expr_mentions e = flat_map instr_mentions e.instrs

  -- FIELDS (6.6)
  abbrev pub extern_mentions : ExternType N P → List (Mention N P)
  extern_mentions (OfFunc u) = Uses u ∷ []
  extern_mentions (OfExactFunc u) = Uses u ∷ []
  extern_mentions (OfTable t) = ref_mentions t.element
  extern_mentions (OfMemory t) = []
  extern_mentions (OfGlobal t) = val_mentions t.val_type
  extern_mentions (OfTag u) = Uses u ∷ []

  -- the type of a group that is alike, once
  abbrev pub import_mentions : ImportItems N P → List (Mention N P)
  import_mentions (Single name i) = extern_mentions i.extern_type
  import_mentions (Group1 is) = flat_map (λ i. extern_mentions i.1.extern_type) is
  import_mentions (Group2 names i) = extern_mentions i.extern_type

  abbrev pub says : List (Mention N P) → List (Part N P)
  says ms = map Says ms

  abbrev pub elements_parts : Elements N P → List (Part N P)
  elements_parts (Indices is) = says (map (Refers Functions) is)
  elements_parts (Expressions t es) = says (ref_mentions t) ++ map Constant es

  abbrev pub defined_parts : Defined N P → List (Part N P)
  defined_parts (Imported from name t) = says (extern_mentions t)
  defined_parts (Func f) = Body f ∷ []
  defined_parts (Table t init) = says (ref_mentions t.element) ++ map Constant (option_to_list init)
  defined_parts (TableOf wide t es) = says (ref_mentions t) ++ elements_parts es
  defined_parts (Memory t) = []
  defined_parts (MemoryOf wide page vs) = []
  defined_parts (Global t init) = says (val_mentions t.val_type) ++ Constant init ∷ []
  defined_parts (Tag u) = Says (Uses u) ∷ []

  abbrev pub elem_mode_parts : ElemMode N P → List (Part N P)
  elem_mode_parts (ActiveElem t offset) = says (refers_if Tables t) ++ Constant offset ∷ []
  elem_mode_parts _ = []

  abbrev pub data_mode_parts : DataMode N P → List (Part N P)
  data_mode_parts (ActiveData m offset) = says (refers_if Memories m) ++ Constant offset ∷ []
  data_mode_parts _ = []

  abbrev pub parts : Field N P → List (Part N P)
  parts (TypeField t) = says (type_mentions t)
  parts (RecField r) = says (flat_map type_mentions r.types)
  parts (ImportField i) = says (import_mentions i.items)
  parts (Define d) = defined_parts d.defined
  parts (ExportField e) = Says (Refers (space_of_kind e.kind) e.item) ∷ []
  parts (StartField s) = Says (Refers Functions s.func) ∷ []
  parts (ElemField e) = elem_mode_parts e.mode ++ elements_parts e.elements
  parts (DataField d) = data_mode_parts d.mode
  parts (CustomField c) = []

  -- all mentions of a part, wherever they are looked up: a function's own use before its body
  abbrev pub part_mentions : Part N P → List (Mention N P)
  part_mentions (Says m) = m ∷ []
  part_mentions (Constant e) = expr_mentions e
  part_mentions (Body f) = Uses f.type_use ∷ local_mentions f.locals ++ expr_mentions f.body

  abbrev pub field_mentions : Field N P → List (Mention N P)
  field_mentions f = flat_map part_mentions (parts f)
