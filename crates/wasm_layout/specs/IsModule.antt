-- Modules whose numbers are in the ranges of their binary fields (WebAssembly 3.0, 5.2 to 5.5).
use Rattle.std.specs.Prelude.{ℕ, suc, ◌≡◌, ◌+◌, ◌<◌, ◌≤◌, ◌^◌, List, [], ◌∷◌, map, length, filter, Option, Some, None}
use Rattle.std.specs.List.{AllByRecursion}
use Rattle.wasm_encoder_base.specs.Types.{IsHeapType, IsSubType, IsValType}
use Rattle.wasm_encoder_base.specs.Instr.{Instr}
use Rattle.wasm_encoder_code.specs.Body.{IsBody}
use Rattle.wasm_encoder_code.specs.Laws.{IsExpression}
use Rattle.wasm_encoder_items.specs.EntityTypes.{Limits, TableType, EntityType, FunctionEntity, TableEntity, MemoryEntity, GlobalEntity, TagEntity}
use Rattle.wasm_encoder_items.specs.Imports.{Imports, One, OfModule, OfType, Export}
use Rattle.wasm_encoder_items.specs.Segments.{Table, WithoutInit, WithInit, Global, ElementSegment, ActiveFunctions, PassiveFunctions, ActiveTableFunctions, DeclaredFunctions, ActiveExpressions, PassiveExpressions, ActiveTableExpressions, DeclaredExpressions, DataSegment, ActiveData, PassiveData}
use Rattle.wasm_encoder_items.specs.TypeEntries.{TypeEntry, OneType, TypeGroup}
use Rattle.wasm_encoder_custom.specs.Names.{Space, InnerSpace}
use Rattle.wasm_layout.specs.Section.{order}
use Rattle.wasm_layout.specs.AbstractModule.{Function, Naming, InnerNaming, NameMaps, Hint, FunctionHints, AbstractModule}
use Rattle.wasm_layout.specs.Present.{is_present}
use Rattle.wasm_layout.specs.Layout.{function_at}

-- numbers of 32 and of 64 bits (5.2.2)
abbrev pub IsU32 : ℕ → Type 0
IsU32 n = n < 2 ^ 32

abbrev pub IsU64 : ℕ → Type 0
IsU64 n = n < 2 ^ 64

abbrev pub IfThere : {A : Type 0} → (A → Type 0) → Option A → Type 0
IfThere P None = Unit {0}
IfThere P (Some x) = P x

-- types (5.3)
abbrev pub IsEntry : TypeEntry → Type 0
IsEntry (OneType t) = IsSubType t
IsEntry (TypeGroup types) = AllByRecursion IsSubType types

pub record IsLimits (l : Limits) : Type 0 where
  pub minimum : IsU64 l.minimum
  pub maximum : IfThere IsU64 l.maximum
  pub page_size_log2 : IfThere IsU32 l.page_size_log2

pub record IsTableType (t : TableType) : Type 0 where
  pub element_type : IsHeapType t.element_type.heap_type
  pub limits : IsLimits t.limits

abbrev pub IsEntity : EntityType → Type 0
IsEntity (FunctionEntity index) = IsU32 index
IsEntity (TableEntity t) = IsTableType t
IsEntity (MemoryEntity l) = IsLimits l
IsEntity (GlobalEntity g) = IsValType g.val_type
IsEntity (TagEntity index) = IsU32 index

-- imports and exports (5.5.5 and 5.5.10)
abbrev pub IsImport : Imports → Type 0
IsImport (One i) = IsEntity i.type
IsImport (OfModule from items) = AllByRecursion (λ i. IsEntity i.type) items
IsImport (OfType from type names) = IsEntity type

abbrev pub IsExport : Export → Type 0
IsExport e = IsU32 e.index

-- functions (5.5.6 and 5.5.13)
pub record IsFunction (f : Function) : Type 0 where
  pub type_index : IsU32 f.type_index
  pub locals : AllByRecursion IsValType f.body.locals
  pub body : IsBody f.body

-- tables, globals and segments (5.5.7, 5.5.9, 5.5.12 and 5.5.14)
abbrev pub IsTable : Table (List Instr) → Type 0
IsTable (WithoutInit t) = IsTableType t
IsTable (WithInit t init) = IsTableType t × IsExpression init

pub record IsGlobal (g : Global (List Instr)) : Type 0 where
  pub type : IsValType g.type.val_type
  pub init : IsExpression g.init

abbrev pub IsElement : ElementSegment (List Instr) → Type 0
IsElement (ActiveFunctions offset functions) = IsExpression offset × AllByRecursion IsU32 functions
IsElement (PassiveFunctions functions) = AllByRecursion IsU32 functions
IsElement (ActiveTableFunctions table offset functions) = IsU32 table × IsExpression offset × AllByRecursion IsU32 functions
IsElement (DeclaredFunctions functions) = AllByRecursion IsU32 functions
IsElement (ActiveExpressions offset elements) = IsExpression offset × AllByRecursion IsExpression elements
IsElement (PassiveExpressions type elements) = IsHeapType type.heap_type × AllByRecursion IsExpression elements
IsElement (ActiveTableExpressions table offset type elements) = IsU32 table × IsExpression offset × IsHeapType type.heap_type × AllByRecursion IsExpression elements
IsElement (DeclaredExpressions type elements) = IsHeapType type.heap_type × AllByRecursion IsExpression elements

abbrev pub IsData : DataSegment (List Instr) → Type 0
IsData (ActiveData memory offset bytes) = IsU32 memory × IsExpression offset
IsData (PassiveData bytes) = Unit {0}

-- numbers of 32 bits that rise, from one on
abbrev pub Rise : ℕ → List ℕ → Type 0
Rise least [] = Unit {0}
Rise least (n ∷ ns) = (least ≤ n) × IsU32 n × Rise (suc n) ns

-- NAME MAPS: their indices rise, and no inner one is empty (appendix, Name Section)
abbrev pub IsMap : {A : Type 0} → List (Naming A) → Type 0
IsMap ns = Rise 0 (map (λ n. n.index) ns)

module _ {A : Type 0} where
  pub record IsInner (n : InnerNaming A) : Type 0 where
    pub is_some : 0 < length n.names
    pub is_map : IsMap n.names

  pub record AreInner (ns : List (InnerNaming A)) : Type 0 where
    pub indices : Rise 0 (map (λ n. n.index) ns)
    pub each : AllByRecursion IsInner ns

  pub record AreNames (names : NameMaps A) : Type 0 where
    pub items : (space : Space) → IsMap (names.items space)
    pub inner : (space : InnerSpace) → AreInner (names.inner space)

-- BRANCH HINTS: those of a function rise, and each stands on an instruction of its body
pub record IsHint (f : Function) (h : Hint) : Type 0 where
  pub index : h.index < length f.body.instructions
  pub value : h.value < 128

pub record AreHints {A : Type 0} (m : AbstractModule A) (g : FunctionHints) : Type 0 where
  pub function : Function
  pub is_at : function_at m g.function ≡ Some function
  pub is_some : 0 < length g.hints
  pub indices : Rise 0 (map (λ h. h.index) g.hints)
  pub each : AllByRecursion (IsHint function) g.hints

-- MODULES: numbers are in range, expressions close the blocks that they open, maps and hints rise, and each gap between sections that
-- are there has its custom sections. What is copied, as names and data, is bytes where the binary is.
pub record IsModule {A : Type 0} (m : AbstractModule A) : Type 0 where
  pub types : AllByRecursion IsEntry m.types
  pub imports : AllByRecursion IsImport m.imports
  pub functions : AllByRecursion IsFunction m.functions
  pub tables : AllByRecursion IsTable m.tables
  pub memories : AllByRecursion IsLimits m.memories
  pub tags : AllByRecursion IsU32 m.tags
  pub globals : AllByRecursion IsGlobal m.globals
  pub exports : AllByRecursion IsExport m.exports
  pub start : IfThere IsU32 m.start
  pub elements : AllByRecursion IsElement m.elements
  pub datas : AllByRecursion IsData m.datas
  pub names : AreNames m.names
  pub hint_functions : Rise 0 (map (λ g. g.function) m.hints)
  pub hints : AllByRecursion (AreHints m) m.hints
  pub gaps : length m.customs ≡ length (filter (is_present m) order) + 1
