-- Operands of instructions in which no type stands, as they are written: abstract syntax trees (WebAssembly 3.0, 6.5), over
-- names of type N and places of type P. An index that may be left out and is means index 0.
use Rattle.std.specs.Prelude.{ℕ, Option}
use Rattle.wast_vector_operands.specs.Identifiers.{Reference}

-- orderings of atomic instructions
pub data Ordering : Type 0 where
  AcqRel : Ordering
  SeqCst : Ordering

-- what a memory argument is of: a memory, or an array of a type
pub data MemArgTarget (N P : Type 0) : Type 0 where
  Memory : Reference N P → MemArgTarget N P
  Array : Reference N P → MemArgTarget N P

-- what may be written behind the target of a memory argument: an ordering or two, an offset, an alignment in bytes
pub record Modifiers : Type 0 where
  pub ordering : Option (Ordering × Option Ordering)
  pub offset : Option ℕ
  pub align : Option ℕ

-- memory arguments (6.5, memory instructions); the alignment in bytes
pub record MemArg (N P : Type 0) : Type 0 where
  pub target : Option (MemArgTarget N P)
  pub ordering : Option (Ordering × Option Ordering)
  pub offset : ℕ
  pub align : ℕ

-- handlers of a continuation that is resumed
pub data Handle (N P : Type 0) : Type 0 where
  OnLabel : (tag label : Reference N P) → Handle N P
  OnSwitch : (tag : Reference N P) → Handle N P
