-- Trees in which each index that is encoded is a number, and each use of a type has its index, but for that of a short block
-- (WebAssembly 3.0, 6.1.3 and 6.6, type uses). What a type describes or is described by has no bytes, nor has a signature beside an index.
use Rattle.std.specs.Prelude.{◌≡◌, List, [], ◌∷◌, All, Option, Some, None}
use Rattle.wast_parser.specs.Identifiers.{Reference, ByNumber, ByName}
use Rattle.wast_value_types.specs.ValueTree.{HeapType, Abstract, Concrete, Exact, RefType, ValType, Number, Ref, StorageType, Packed, Value}
use Rattle.wast_signatures.specs.TypeTree.{Sig, InnerType, FuncType, StructType, ArrayType, ContType, TypeDef, TypeUse}
use Rattle.wast_operands.specs.OperandTree.{MemArgTarget, Memory, Array, MemArg, Handle, OnLabel, OnSwitch}
use Rattle.wast_typed_operands.specs.TypedTree.{Catch, CatchTag, CatchTagRef, CatchAll, CatchAllRef}
use Rattle.wast_imports.specs.ImportTree.{ExternType, OfFunc, OfExactFunc, OfTable, OfMemory, OfGlobal, OfTag, ImportItems, Single, Group1, Group2}
use Rattle.wast_core_instr.specs.InstructionTree.{Operands, Instruction}
use Rattle.wast_core_instr.specs.InstructionTree as instr
-- of what may be left out, where it is there
pub use Rattle.wasm_layout.specs.IsModule.{IfThere}

module _ {N P : Type 0} where
  abbrev pub IsNumber : Reference N P → Type 0
  IsNumber (ByNumber n p) = Unit {0}
  IsNumber (ByName id) = ⊥

  -- TYPES (6.4)
  abbrev pub HeapResolved : HeapType N P → Type 0
  HeapResolved (Abstract shared w) = Unit {0}
  HeapResolved (Concrete i) = IsNumber i
  HeapResolved (Exact i) = IsNumber i

  abbrev pub RefResolved : RefType N P → Type 0
  RefResolved r = HeapResolved r.heap_type

  abbrev pub ValResolved : ValType N P → Type 0
  ValResolved (Number t) = Unit {0}
  ValResolved (Ref r) = RefResolved r

  abbrev pub StorageResolved : StorageType N P → Type 0
  StorageResolved (Packed t) = Unit {0}
  StorageResolved (Value t) = ValResolved t

  abbrev pub SigResolved : Sig N P → Type 0
  SigResolved s = All (λ p. ValResolved p.val_type) s.params × All ValResolved s.results

  abbrev pub InnerResolved : InnerType N P → Type 0
  InnerResolved (FuncType s) = SigResolved s
  InnerResolved (StructType fs) = All (λ f. StorageResolved f.field_type.storage) fs
  InnerResolved (ArrayType t) = StorageResolved t.storage
  InnerResolved (ContType i) = IsNumber i

  abbrev pub TypeResolved : TypeDef N P → Type 0
  TypeResolved d = IfThere IsNumber d.supertype × InnerResolved d.comp.inner

  -- a use with its type (6.6, type uses), whatever signature is written beside it
  abbrev pub UseResolved : TypeUse N P → Type 0
  UseResolved u = elim u.index [ Some i ↦ IsNumber i | None ↦ ⊥ ]

  abbrev pub ExternResolved : ExternType N P → Type 0
  ExternResolved (OfFunc u) = UseResolved u
  ExternResolved (OfExactFunc u) = UseResolved u
  ExternResolved (OfTable t) = RefResolved t.element
  ExternResolved (OfMemory t) = Unit {0}
  ExternResolved (OfGlobal t) = ValResolved t.val_type
  ExternResolved (OfTag u) = UseResolved u

  -- what is imported (6.6, imports)
  abbrev pub ImportResolved : ImportItems N P → Type 0
  ImportResolved (Single name i) = ExternResolved i.extern_type
  ImportResolved (Group1 is) = All (λ i. ExternResolved i.1.extern_type) is
  ImportResolved (Group2 names i) = ExternResolved i.extern_type

  -- the type of a block (6.5, control instructions), which needs no index without parameters and with at most one result
  abbrev pub ResultsResolved : List (ValType N P) → Type 0
  ResultsResolved [] = Unit {0}
  ResultsResolved (t ∷ ts) = ValResolved t × (ts ≡ [])

  abbrev pub ShortResolved : Option (Sig N P) → Type 0
  ShortResolved None = Unit {0}
  ShortResolved (Some s) = (s.params ≡ []) × ResultsResolved s.results

  abbrev pub BlockResolved : TypeUse N P → Type 0
  BlockResolved u = elim u.index [ Some i ↦ IsNumber i | None ↦ ShortResolved u.inline ]

  -- OPERANDS (6.5)
  abbrev pub CatchResolved : Catch N P → Type 0
  CatchResolved (CatchTag t l) = IsNumber t × IsNumber l
  CatchResolved (CatchTagRef t l) = IsNumber t × IsNumber l
  CatchResolved (CatchAll l) = IsNumber l
  CatchResolved (CatchAllRef l) = IsNumber l

  abbrev pub TargetResolved : MemArgTarget N P → Type 0
  TargetResolved (Memory i) = IsNumber i
  TargetResolved (Array i) = IsNumber i

  abbrev pub MemArgResolved : MemArg N P → Type 0
  MemArgResolved m = IfThere TargetResolved m.target

  abbrev pub HandleResolved : Handle N P → Type 0
  HandleResolved (OnLabel t l) = IsNumber t × IsNumber l
  HandleResolved (OnSwitch t) = IsNumber t

  abbrev pub OperandsResolved : Operands N P → Type 0
  OperandsResolved (instr.Block b) = BlockResolved b.type_use
  OperandsResolved (instr.TryTable t) = BlockResolved t.block.type_use × All CatchResolved t.catches
  OperandsResolved (instr.One i) = IsNumber i
  OperandsResolved (instr.Two i j) = IsNumber i × IsNumber j
  OperandsResolved (instr.Counted i n) = IsNumber i
  OperandsResolved (instr.LabelTable is i) = All IsNumber is × IsNumber i
  OperandsResolved (instr.Indirect x) = IfThere IsNumber x.table × UseResolved x.type_use
  OperandsResolved (instr.Optional i) = IfThere IsNumber i
  OperandsResolved (instr.OptionalTwo p) = IfThere (λ p. IsNumber p.0 × IsNumber p.1) p
  OperandsResolved (instr.OptionalThen i j) = IfThere IsNumber i × IsNumber j
  OperandsResolved (instr.Heap h) = HeapResolved h
  OperandsResolved (instr.Ref r) = RefResolved r
  OperandsResolved (instr.Cast c) = IsNumber c.label × RefResolved c.source × RefResolved c.target
  OperandsResolved (instr.Types ts) = IfThere (All ValResolved) ts
  OperandsResolved (instr.Memory m) = MemArgResolved m
  OperandsResolved (instr.MemoryLane m n) = MemArgResolved m
  OperandsResolved (instr.Ordered ordering x) = OperandsResolved x
  OperandsResolved (instr.Resume i hs) = IsNumber i × All HandleResolved hs
  OperandsResolved (instr.ResumeThrow i t hs) = IsNumber i × IsNumber t × All HandleResolved hs
  OperandsResolved _ = Unit {0}

  abbrev pub InstrResolved : Instruction N P → Type 0
  InstrResolved i = OperandsResolved i.operands

  abbrev pub InstrsResolved : List (Instruction N P) → Type 0
  InstrsResolved is = All InstrResolved is
