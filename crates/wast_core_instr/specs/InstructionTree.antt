-- Instructions as they are written: abstract syntax trees (WebAssembly 3.0, 6.5), over names of type N and places of type P.
use Rattle.std.specs.Prelude.{ℕ, ℤ, Bool, true, false, List, Option, Some, None}
use Rattle.wast_typed_operands.specs.Identifiers.{Named, Reference}
use Rattle.wast_typed_operands.specs.ValueTree.{HeapType, RefType, ValType}
use Rattle.wast_vector_operands.specs.VectorTree.{Vector}
use Rattle.wast_operands.specs.OperandTree.{Ordering, MemArg, Handle}
use Rattle.wast_typed_operands.specs.TypedTree as typed
use Rattle.wast_mnemonics.specs.Heads.{Head}

-- What stands after a mnemonic, in the order of the text. Floats stay as they are written.
pub data Operands (N P : Type 0) : Type 0 where
  NoOperands : Operands N P
  Label : Option (Named N P) → Operands N P
  Block : typed.Block N P → Operands N P
  TryTable : typed.TryTable N P → Operands N P
  One : Reference N P → Operands N P
  Two : (first second : Reference N P) → Operands N P
  Counted : Reference N P → ℕ → Operands N P
  LabelTable : List (Reference N P) → (default : Reference N P) → Operands N P
  Indirect : typed.Indirect N P → Operands N P
  Optional : Option (Reference N P) → Operands N P
  OptionalTwo : Option (Reference N P × Reference N P) → Operands N P
  OptionalThen : Option (Reference N P) → Reference N P → Operands N P
  Heap : HeapType N P → Operands N P
  Ref : RefType N P → Operands N P
  Cast : typed.Cast N P → Operands N P
  Integer : ℤ → Operands N P
  Float : List ℕ → Operands N P
  Lanes : Vector → Operands N P
  Types : Option (List (ValType N P)) → Operands N P
  Lane : ℕ → Operands N P
  Shuffle : List ℕ → Operands N P
  Memory : MemArg N P → Operands N P
  MemoryLane : MemArg N P → ℕ → Operands N P
  Fence : Option Ordering → Operands N P
  Ordered : Ordering → Operands N P → Operands N P
  Resume : Reference N P → List (Handle N P) → Operands N P
  ResumeThrow : (type tag : Reference N P) → List (Handle N P) → Operands N P

-- an instruction (6.5): which it is, and its operands
pub record Instruction (N P : Type 0) : Type 0 where
  pub head : Head
  pub operands : Operands N P

-- whether operands choose the second of the entries of a mnemonic: by result types, or a reference type that is nullable
abbrev pub choose_second : {N P : Type 0} → Operands N P → Bool
choose_second (Types (Some ts)) = true
choose_second (Ref t) = t.nullable
choose_second _ = false

-- the memory argument among operands, and operands with another in its place
abbrev pub mem_arg_in : {N P : Type 0} → Operands N P → Option (MemArg N P)
mem_arg_in (Memory m) = Some m
mem_arg_in (MemoryLane m n) = Some m
mem_arg_in _ = None

abbrev pub with_mem_arg : {N P : Type 0} → MemArg N P → Operands N P → Operands N P
with_mem_arg m (Memory old) = Memory m
with_mem_arg m (MemoryLane old n) = MemoryLane m n
with_mem_arg m operands = operands
