-- The types of values, heaps, tables, memories and globals as they are written: abstract syntax trees (WebAssembly 3.0, 6.4),
-- over names of type N and places of type P.
use Rattle.std.specs.Prelude.{ℕ, Bool, true, Option, Some, None, option_map}
use Rattle.wasm_encoder_base.specs.Types.{AbstractHeapType}
use Rattle.wast_words.specs.Identifiers.{Reference}

-- number and vector types (6.4.1)
pub data NumberType : Type 0 where
  I32 : NumberType
  I64 : NumberType
  F32 : NumberType
  F64 : NumberType
  V128 : NumberType

-- abstract heap types (6.4.2), and those of the stack switching proposal
pub data HeapWord : Type 0 where
  Known : AbstractHeapType → HeapWord
  Cont : HeapWord
  NoCont : HeapWord

-- heap types (6.4.2); shared and exact ones are those of proposals
pub data HeapType (N P : Type 0) : Type 0 where
  Abstract : (shared : Bool) → HeapWord → HeapType N P
  Concrete : Reference N P → HeapType N P
  Exact : Reference N P → HeapType N P

-- reference types (6.4.3)
pub record RefType (N P : Type 0) : Type 0 where
  pub nullable : Bool
  pub heap_type : HeapType N P

-- value types (6.4.4)
pub data ValType (N P : Type 0) : Type 0 where
  Number : NumberType → ValType N P
  Ref : RefType N P → ValType N P

-- packed types, storage types and field types (6.4.6)
pub data PackedType : Type 0 where
  I8 : PackedType
  I16 : PackedType

pub data StorageType (N P : Type 0) : Type 0 where
  Packed : PackedType → StorageType N P
  Value : ValType N P → StorageType N P

pub record FieldType (N P : Type 0) : Type 0 where
  pub mutable : Bool
  pub storage : StorageType N P

-- limits, behind whether addresses have 64 bits and not 32 (6.4.8)
pub record Limits : Type 0 where
  pub is_wide : Bool
  pub minimum : ℕ
  pub maximum : Option ℕ

-- table types (6.4.12); a shared one is that of a proposal
pub record TableType (N P : Type 0) : Type 0 where
  pub limits : Limits
  pub shared : Bool
  pub element : RefType N P

-- memory types (6.4.11); the page size, where one is written, is 2 to this power
pub record MemoryType : Type 0 where
  pub limits : Limits
  pub shared : Bool
  pub page : Option ℕ

-- global types (6.4.10); a shared one is that of a proposal
pub record GlobalType (N P : Type 0) : Type 0 where
  pub val_type : ValType N P
  pub mutable : Bool
  pub shared : Bool

-- the same reference type with a shared heap type, where that is abstract
abbrev pub shared_heap : {N P : Type 0} → HeapType N P → Option (HeapType N P)
shared_heap (Abstract shared w) = Some (Abstract true w)
shared_heap h = None

abbrev pub shared_form : {N P : Type 0} → RefType N P → Option (RefType N P)
shared_form r = option_map (λ h. record { nullable = r.nullable; heap_type = h }) (shared_heap r.heap_type)
