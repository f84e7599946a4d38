-- Operands in which types stand, as they are written (WebAssembly 3.0, 6.5), over names of type N and places of type P.
use Rattle.std.specs.Prelude.{List, Option}
use Rattle.wast_signatures.specs.Identifiers.{Named, Reference}
use Rattle.wast_signatures.specs.ValueTree.{RefType}
use Rattle.wast_signatures.specs.TypeTree.{TypeUse}

-- the label of a block, where it has one, and its type (6.5, control instructions)
pub record Block (N P : Type 0) : Type 0 where
  pub label : Option (Named N P)
  pub type_use : TypeUse N P

-- the clauses of try_table (6.5, control instructions)
pub data Catch (N P : Type 0) : Type 0 where
  CatchTag : (tag label : Reference N P) → Catch N P
  CatchTagRef : (tag label : Reference N P) → Catch N P
  CatchAll : (label : Reference N P) → Catch N P
  CatchAllRef : (label : Reference N P) → Catch N P

pub record TryTable (N P : Type 0) : Type 0 where
  pub block : Block N P
  pub catches : List (Catch N P)

-- an indirect call: the table, where it is written, and the type of what is called (6.5, control instructions)
pub record Indirect (N P : Type 0) : Type 0 where
  pub table : Option (Reference N P)
  pub type_use : TypeUse N P

-- a branch on a cast: the label, and the types from which and to which is cast (6.5, control instructions)
pub record Cast (N P : Type 0) : Type 0 where
  pub label : Reference N P
  pub source : RefType N P
  pub target : RefType N P
