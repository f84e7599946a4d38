-- Element and data segments (WebAssembly 3.0, 5.5.12 and 5.5.14), and tables and globals with their initialisers (5.5.7 and
-- 5.5.9). E is the type of constant expressions.
use Rattle.std.specs.Prelude.{ℕ, nat_eq, ◌&&◌, Bool, true, false, List, [], ◌∷◌, ◌++◌}
use Rattle.std.specs.List.{AllByRecursion}
use Rattle.wasm_encoder_base.specs.Leb.{uleb}
use Rattle.wasm_encoder_base.specs.Bytes.{counted, sized}
use Rattle.wasm_encoder_base.specs.Types.{RefType, HeapType, Abstract, FuncHeap, ref_bytes}
use Rattle.wasm_encoder_items.specs.EntityTypes.{TableType, GlobalType, table_bytes, global_bytes}

-- the bytes of an expression's instructions, and the end
abbrev pub ended : List ℕ → List ℕ
ended instructions = instructions ++ 0x0B ∷ []

-- the nullable reference to a function
abbrev pub is_func : HeapType → Bool
is_func (Abstract FuncHeap) = true
is_func _ = false

abbrev pub is_funcref : RefType → Bool
is_funcref type = type.nullable && is_func type.heap_type

-- the eight kinds of element segments, in the order of their flags
pub data ElementSegment (E : Type 0) : Type 0 where
  ActiveFunctions : (offset : E) → (functions : List ℕ) → ElementSegment E
  PassiveFunctions : (functions : List ℕ) → ElementSegment E
  ActiveTableFunctions : (table : ℕ) → (offset : E) → (functions : List ℕ) → ElementSegment E
  DeclaredFunctions : (functions : List ℕ) → ElementSegment E
  ActiveExpressions : (offset : E) → (elements : List E) → ElementSegment E
  PassiveExpressions : RefType → (elements : List E) → ElementSegment E
  ActiveTableExpressions : (table : ℕ) → (offset : E) → RefType → (elements : List E) → ElementSegment E
  DeclaredExpressions : RefType → (elements : List E) → ElementSegment E

-- without a table the elements are functions or of type funcref; 00 says that indices are those of functions
abbrev pub element_bytes : {E : Type 0} → (E → List ℕ) → ElementSegment E → List ℕ
element_bytes spell (ActiveFunctions offset functions) = 0x00 ∷ (spell offset ++ counted uleb functions)
element_bytes spell (PassiveFunctions functions) = 0x01 ∷ 0x00 ∷ counted uleb functions
element_bytes spell (ActiveTableFunctions table offset functions) = 0x02 ∷ (uleb table ++ (spell offset ++ (0x00 ∷ counted uleb functions)))
element_bytes spell (DeclaredFunctions functions) = 0x03 ∷ 0x00 ∷ counted uleb functions
element_bytes spell (ActiveExpressions offset elements) = 0x04 ∷ (spell offset ++ counted spell elements)
element_bytes spell (PassiveExpressions type elements) = 0x05 ∷ (ref_bytes type ++ counted spell elements)
element_bytes spell (ActiveTableExpressions table offset type elements) = 0x06 ∷ (uleb table ++ (spell offset ++ (ref_bytes type ++ counted spell elements)))
element_bytes spell (DeclaredExpressions type elements) = 0x07 ∷ (ref_bytes type ++ counted spell elements)

-- P holds of each expression of the segment
abbrev pub EachOfElements : {E : Type 0} → (E → Type 0) → ElementSegment E → Type 0
EachOfElements P (ActiveFunctions offset functions) = P offset
EachOfElements P (ActiveTableFunctions table offset functions) = P offset
EachOfElements P (ActiveExpressions offset elements) = P offset × AllByRecursion P elements
EachOfElements P (PassiveExpressions type elements) = AllByRecursion P elements
EachOfElements P (ActiveTableExpressions table offset type elements) = P offset × AllByRecursion P elements
EachOfElements P (DeclaredExpressions type elements) = AllByRecursion P elements
EachOfElements P _ = Unit {0}

pub data DataSegment (E : Type 0) : Type 0 where
  ActiveData : (memory : ℕ) → (offset : E) → (bytes : List ℕ) → DataSegment E
  PassiveData : (bytes : List ℕ) → DataSegment E

-- 0, or 2 and the memory where it isn't the first
abbrev pub memory_bytes : ℕ → List ℕ
memory_bytes memory = elim (nat_eq memory 0) [ true ↦ 0x00 ∷ [] | false ↦ 0x02 ∷ uleb memory ]

abbrev pub data_bytes : {E : Type 0} → (E → List ℕ) → DataSegment E → List ℕ
data_bytes spell (ActiveData memory offset bytes) = memory_bytes memory ++ (spell offset ++ sized bytes)
data_bytes spell (PassiveData bytes) = 0x01 ∷ sized bytes

abbrev pub EachOfData : {E : Type 0} → (E → Type 0) → DataSegment E → Type 0
EachOfData P (ActiveData memory offset bytes) = P offset
EachOfData P (PassiveData bytes) = Unit {0}

pub data Table (E : Type 0) : Type 0 where
  WithoutInit : TableType → Table E
  WithInit : TableType → (init : E) → Table E

abbrev pub table_item : {E : Type 0} → (E → List ℕ) → Table E → List ℕ
table_item spell (WithoutInit type) = table_bytes type
table_item spell (WithInit type init) = 0x40 ∷ 0x00 ∷ (table_bytes type ++ spell init)

abbrev pub EachOfTable : {E : Type 0} → (E → Type 0) → Table E → Type 0
EachOfTable P (WithoutInit type) = Unit {0}
EachOfTable P (WithInit type init) = P init

pub record Global (E : Type 0) : Type 0 where
  pub type : GlobalType
  pub init : E

abbrev pub EachOfGlobal : {E : Type 0} → (E → Type 0) → Global E → Type 0
EachOfGlobal P g = P g.init

abbrev pub global_item : {E : Type 0} → (E → List ℕ) → Global E → List ℕ
global_item spell g = global_bytes g.type ++ spell g.init
