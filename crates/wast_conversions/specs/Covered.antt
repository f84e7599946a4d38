-- The forms in trees that have no bytes here, in the order in which they stand: those of the proposals on stack switching, shared
-- types, custom descriptors and exact types, orderings that are written with an access, and those of a fence other than sequential
-- consistency, memory arguments that name an array, literals of floating-point numbers, and each instruction that no opcode is listed
-- of. A tree is covered where it has none. Each is called by what it is, and in an instruction by the mnemonic.
use Rattle.std.specs.Prelude.{ℕ, Bool, true, false, ◌||◌, is_some, List, [], ◌∷◌, ◌++◌, map, Option, Some, None, codes}
use Rattle.std.specs.List.{flat_map}
use Rattle.wast_value_types.specs.ValueTree.{HeapWord, Known, HeapType, Abstract, Concrete, Exact, RefType, ValType, Number, Ref, StorageType, Packed, Value, TableType, GlobalType}
use Rattle.wast_signatures.specs.TypeTree.{Sig, InnerType, FuncType, StructType, ArrayType, ContType, CompType, TypeDef, TypeUse}
use Rattle.wast_vector_operands.specs.VectorTree.{Vector, Integers, Floats}
use Rattle.wast_operands.specs.OperandTree.{Ordering, AcqRel, MemArgTarget, Memory, Array, MemArg}
use Rattle.wast_imports.specs.ImportTree.{ExternType, OfFunc, OfExactFunc, OfTable, OfMemory, OfGlobal, OfTag}
use Rattle.wast_mnemonics.specs.Heads.{Head, Listed, Unlisted}
use Rattle.wast_core_instr.specs.InstructionTree.{Operands, Instruction}
use Rattle.wast_core_instr.specs.InstructionTree as instr

-- a form, by what it is called
abbrev pub Form : Type 0
Form = List ℕ

abbrev pub form_if : Bool → Form → List Form
form_if true form = form ∷ []
form_if false form = []

abbrev pub word_forms : HeapWord → List Form
word_forms (Known a) = []
word_forms _ = codes "cont type" ∷ []

abbrev pub vector_forms : Vector → List Form
vector_forms (Integers w lanes) = []
vector_forms (Floats w lanes) = codes "float" ∷ []

-- the orderings of a memory argument, and that of a fence
abbrev pub access_forms : Option (Ordering × Option Ordering) → List Form
access_forms None = []
access_forms (Some o) = codes "ordering" ∷ []

abbrev pub fence_forms : Option Ordering → List Form
fence_forms (Some AcqRel) = codes "ordering" ∷ []
fence_forms _ = []

-- those of an instruction, of which its operands have these: an instruction that is no entry of the table is one itself
abbrev pub forms_with : Head → List Form → List Form
forms_with (Listed e) fs = map (λ f. e.mnemonic) fs
forms_with (Unlisted mnemonic) fs = mnemonic ∷ []

module _ {N P : Type 0} where
  -- TYPES (6.4)
  abbrev pub heap_forms : HeapType N P → List Form
  heap_forms (Abstract shared w) = form_if shared (codes "shared type") ++ word_forms w
  heap_forms (Concrete i) = []
  heap_forms (Exact i) = codes "exact type" ∷ []

  abbrev pub ref_forms : RefType N P → List Form
  ref_forms r = heap_forms r.heap_type

  abbrev pub val_forms : ValType N P → List Form
  val_forms (Number t) = []
  val_forms (Ref r) = ref_forms r

  abbrev pub storage_forms : StorageType N P → List Form
  storage_forms (Packed t) = []
  storage_forms (Value t) = val_forms t

  abbrev pub sig_forms : Sig N P → List Form
  sig_forms s = flat_map (λ p. val_forms p.val_type) s.params ++ flat_map val_forms s.results

  abbrev pub inner_forms : InnerType N P → List Form
  inner_forms (FuncType s) = sig_forms s
  inner_forms (StructType fs) = flat_map (λ f. storage_forms f.field_type.storage) fs
  inner_forms (ArrayType t) = storage_forms t.storage
  inner_forms (ContType i) = codes "cont type" ∷ []

  abbrev pub comp_forms : CompType N P → List Form
  comp_forms c = form_if c.shared (codes "shared type") ++ inner_forms c.inner

  abbrev pub type_forms : TypeDef N P → List Form
  type_forms d = form_if (is_some d.describes || is_some d.descriptor) (codes "descriptor") ++ comp_forms d.comp

  -- the signature that is written, where one is
  abbrev pub inline_forms : Option (Sig N P) → List Form
  inline_forms None = []
  inline_forms (Some s) = sig_forms s

  abbrev pub use_forms : TypeUse N P → List Form
  use_forms u = inline_forms u.inline

  abbrev pub table_forms : TableType N P → List Form
  table_forms t = form_if t.shared (codes "shared type") ++ ref_forms t.element

  abbrev pub global_forms : GlobalType N P → List Form
  global_forms g = form_if g.shared (codes "shared type") ++ val_forms g.val_type

  abbrev pub extern_forms : ExternType N P → List Form
  extern_forms (OfFunc u) = use_forms u
  extern_forms (OfExactFunc u) = codes "exact type" ∷ use_forms u
  extern_forms (OfTable t) = table_forms t
  extern_forms (OfMemory t) = []
  extern_forms (OfGlobal t) = global_forms t
  extern_forms (OfTag u) = use_forms u

  -- OPERANDS (6.5)
  abbrev pub target_forms : Option (MemArgTarget N P) → List Form
  target_forms (Some (Array i)) = codes "array" ∷ []
  target_forms _ = []

  abbrev pub mem_arg_forms : MemArg N P → List Form
  mem_arg_forms m = target_forms m.target ++ access_forms m.ordering

  abbrev pub select_forms : Option (List (ValType N P)) → List Form
  select_forms None = []
  select_forms (Some ts) = flat_map val_forms ts

  abbrev pub operand_forms : Operands N P → List Form
  operand_forms (instr.Block b) = use_forms b.type_use
  operand_forms (instr.TryTable t) = use_forms t.block.type_use
  operand_forms (instr.Indirect x) = use_forms x.type_use
  operand_forms (instr.Heap h) = heap_forms h
  operand_forms (instr.Ref r) = ref_forms r
  operand_forms (instr.Cast c) = ref_forms c.source ++ ref_forms c.target
  operand_forms (instr.Types ts) = select_forms ts
  operand_forms (instr.Float text) = codes "float" ∷ []
  operand_forms (instr.Lanes v) = vector_forms v
  operand_forms (instr.Memory m) = mem_arg_forms m
  operand_forms (instr.MemoryLane m n) = mem_arg_forms m
  operand_forms (instr.Fence ordering) = fence_forms ordering
  operand_forms _ = []

  -- INSTRUCTIONS (6.5)
  abbrev pub instr_forms : Instruction N P → List Form
  instr_forms i = forms_with i.head (operand_forms i.operands)

  abbrev pub instrs_forms : List (Instruction N P) → List Form
  instrs_forms is = flat_map instr_forms is
