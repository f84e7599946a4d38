-- Imports, and what they and exports are of, as they are written: abstract syntax trees (WebAssembly 3.0, 6.4.13 and 6.6, imports), over
-- names of type N and places of type P.
use Rattle.std.specs.Prelude.{ℕ, List, Option}
use Rattle.wast_signatures.specs.Identifiers.{Named}
use Rattle.wast_value_types.specs.ValueTree.{TableType, MemoryType, GlobalType}
use Rattle.wast_signatures.specs.TypeTree.{TypeUse}

-- external types (6.4.13); that of exactly such functions is that of a proposal
pub data ExternType (N P : Type 0) : Type 0 where
  OfFunc : TypeUse N P → ExternType N P
  OfExactFunc : TypeUse N P → ExternType N P
  OfTable : TableType N P → ExternType N P
  OfMemory : MemoryType → ExternType N P
  OfGlobal : GlobalType N P → ExternType N P
  OfTag : TypeUse N P → ExternType N P

-- one in its parentheses, with what it is called
pub record Item (N P : Type 0) : Type 0 where
  -- where its word stands
  pub place : P
  pub id : Option (Named N P)
  pub given : Option (List ℕ)
  pub extern_type : ExternType N P

-- what is imported from a module (6.6, imports): one, or by a proposal several, each with its item, or all of one item
pub data ImportItems (N P : Type 0) : Type 0 where
  Single : (name : List ℕ) → Item N P → ImportItems N P
  Group1 : List (List ℕ × Item N P) → ImportItems N P
  Group2 : (names : List (List ℕ)) → Item N P → ImportItems N P

pub record Imports (N P : Type 0) : Type 0 where
  -- where the word `import` stands
  pub place : P
  -- the name of the module
  pub from : List ℕ
  pub items : ImportItems N P

-- a name, and what is exported under it
pub record ExportType (N P : Type 0) : Type 0 where
  -- where the word `export` stands
  pub place : P
  pub name : List ℕ
  pub item : Item N P
