-- A module without names for indices (WebAssembly 3.0, 2.5), with the names, branch hints and custom sections that a binary may hold.
-- A is the type of the names that stand in name maps.
use Rattle.std.specs.Prelude.{ℕ, List, Option}
use Rattle.wasm_encoder_base.specs.Instr.{Instr}
use Rattle.wasm_encoder_code.specs.Body.{Body}
use Rattle.wasm_encoder_items.specs.EntityTypes.{Limits}
use Rattle.wasm_encoder_items.specs.Imports.{Imports, Export}
use Rattle.wasm_encoder_items.specs.Segments.{Table, Global, ElementSegment, DataSegment}
use Rattle.wasm_encoder_items.specs.TypeEntries.{TypeEntry}
use Rattle.wasm_encoder_custom.specs.Custom.{Custom}
use Rattle.wasm_encoder_custom.specs.Names.{Space, InnerSpace}

-- functions with a body (2.5.2); the instructions of the body stand without the end
pub record Function : Type 0 where
  pub type_index : ℕ
  pub body : Body

-- name maps (appendix, Name Section): of items by their indices, of what is inside them by two
pub record Naming (A : Type 0) : Type 0 where
  pub index : ℕ
  pub name : A

pub record InnerNaming (A : Type 0) : Type 0 where
  pub index : ℕ
  pub names : List (Naming A)

pub record NameMaps (A : Type 0) : Type 0 where
  pub module_name : Option A
  pub items : Space → List (Naming A)
  pub inner : InnerSpace → List (InnerNaming A)

-- branch hints of a function: by the indices of its instructions, their values
pub record Hint : Type 0 where
  pub index : ℕ
  pub value : ℕ

pub record FunctionHints : Type 0 where
  pub function : ℕ
  pub hints : List Hint

pub record AbstractModule (A : Type 0) : Type 0 where
  pub types : List TypeEntry
  pub imports : List Imports
  pub functions : List Function
  pub tables : List (Table (List Instr))
  pub memories : List Limits
  -- tags by the indices of their types
  pub tags : List ℕ
  pub globals : List (Global (List Instr))
  pub exports : List Export
  pub start : Option ℕ
  pub elements : List (ElementSegment (List Instr))
  pub datas : List (DataSegment (List Instr))
  pub names : NameMaps A
  pub hints : List FunctionHints
  -- those of each gap: before the first section that is there, between two neighbours, behind the last
  pub customs : List (List Custom)
