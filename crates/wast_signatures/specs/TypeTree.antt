-- Signatures, composite types, type definitions and type uses as they are written: abstract syntax trees (WebAssembly 3.0, 6.4
-- and 6.6), over names of type N and places of type P.
use Rattle.std.specs.Prelude.{ℕ, Bool, List, Option}
use Rattle.wast_value_types.specs.Identifiers.{Named, Reference}
use Rattle.wast_value_types.specs.ValueTree.{ValType, FieldType}

-- a parameter or a local, and the name that an annotation gives it (6.4.5)
pub record Local (N P : Type 0) : Type 0 where
  pub id : Option (Named N P)
  pub given : Option (List ℕ)
  pub val_type : ValType N P

-- parameters and results (6.4.5)
pub record Sig (N P : Type 0) : Type 0 where
  pub params : List (Local N P)
  pub results : List (ValType N P)

pub record StructField (N P : Type 0) : Type 0 where
  pub id : Option (Named N P)
  pub field_type : FieldType N P

-- composite types (6.4.6); that of continuations is one of a proposal
pub data InnerType (N P : Type 0) : Type 0 where
  FuncType : Sig N P → InnerType N P
  StructType : List (StructField N P) → InnerType N P
  ArrayType : FieldType N P → InnerType N P
  ContType : Reference N P → InnerType N P

-- the same with whether it is shared, as that of a proposal may be; what is shared twice is shared
pub record CompType (N P : Type 0) : Type 0 where
  pub shared : Bool
  pub inner : InnerType N P

-- type definitions (6.4.7); what describes or is described is that of a proposal
pub record TypeDef (N P : Type 0) : Type 0 where
  pub is_final : Bool
  pub supertype : Option (Reference N P)
  pub describes : Option (Reference N P)
  pub descriptor : Option (Reference N P)
  pub comp : CompType N P

-- the field that defines a type, and the group of types that may refer to each other (6.4.7)
pub record TypeItem (N P : Type 0) : Type 0 where
  -- where the word `type` stands
  pub place : P
  pub id : Option (Named N P)
  pub given : Option (List ℕ)
  pub definition : TypeDef N P

pub record Rec (N P : Type 0) : Type 0 where
  -- where the word `rec` stands
  pub place : P
  pub types : List (TypeItem N P)

-- type uses (6.6, type uses); the signature is there where a group of parameters or results is written
pub record TypeUse (N P : Type 0) : Type 0 where
  pub index : Option (Reference N P)
  pub inline : Option (Sig N P)
