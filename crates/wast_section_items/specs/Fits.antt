-- Items of sections in which each count and each length is a number of 32 bits, as the binary format asks (WebAssembly 3.0, 5.1.3, 5.2.4 and
-- 5.5).
use Rattle.std.specs.Prelude.{ℕ, ◌<◌, ◌^◌, List, length, All}
use Rattle.std.specs.List.{AllByRecursion}
use Rattle.wasm_encoder_base.specs.Instr.{Instr, counts_fit}
use Rattle.wasm_encoder_base.specs.Types.{CompositeType, Function, Struct, Array}
use Rattle.wasm_encoder_code.specs.Body.{body_bytes}
use Rattle.wasm_encoder_code.specs.Locals.{LocalsFit}
use Rattle.wasm_encoder_items.specs.Imports.{Imports, One, OfModule, OfType, Export}
use Rattle.wasm_encoder_items.specs.Segments.{Table, EachOfTable, Global, EachOfGlobal, ElementSegment, ActiveFunctions, PassiveFunctions, ActiveTableFunctions, DeclaredFunctions, ActiveExpressions, PassiveExpressions, ActiveTableExpressions, DeclaredExpressions, EachOfElements, DataSegment, ActiveData, PassiveData, EachOfData}
use Rattle.wasm_encoder_items.specs.TypeEntries.{TypeEntry, OneType, TypeGroup}
use Rattle.wasm_layout.specs.AbstractModule as abstract

-- a list whose count is a number of 32 bits
abbrev pub Counted : {A : Type 0} → List A → Type 0
Counted xs = length xs < 2 ^ 32

-- types (5.3)
abbrev pub CompositeFits : CompositeType → Type 0
CompositeFits (Function f) = Counted f.params × Counted f.results
CompositeFits (Struct fs) = Counted fs
CompositeFits (Array t) = Unit {0}

abbrev pub EntryFits : TypeEntry → Type 0
EntryFits (OneType t) = CompositeFits t.composite_type
EntryFits (TypeGroup ts) = Counted ts × AllByRecursion (λ t. CompositeFits t.composite_type) ts

-- imports and exports (5.5.5 and 5.5.10)
abbrev pub ImportsFit : Imports → Type 0
ImportsFit (One i) = Counted i.module_name × Counted i.name
ImportsFit (OfModule from items) = Counted from × Counted items × AllByRecursion (λ i. Counted i.name) items
ImportsFit (OfType from type names) = Counted from × Counted names × AllByRecursion Counted names

abbrev pub ExportFits : Export → Type 0
ExportFits e = Counted e.name

-- expressions (5.4), and tables and globals with their initialisers (5.5.7 and 5.5.9)
abbrev pub ExprFits : List Instr → Type 0
ExprFits is = All (λ i. counts_fit i.operands) is

abbrev pub TableFits : Table (List Instr) → Type 0
TableFits = EachOfTable ExprFits

abbrev pub GlobalFits : Global (List Instr) → Type 0
GlobalFits = EachOfGlobal ExprFits

-- segments (5.5.12 and 5.5.14)
abbrev pub element_count : {E : Type 0} → ElementSegment E → ℕ
element_count (ActiveFunctions offset functions) = length functions
element_count (PassiveFunctions functions) = length functions
element_count (ActiveTableFunctions table offset functions) = length functions
element_count (DeclaredFunctions functions) = length functions
element_count (ActiveExpressions offset elements) = length elements
element_count (PassiveExpressions type elements) = length elements
element_count (ActiveTableExpressions table offset type elements) = length elements
element_count (DeclaredExpressions type elements) = length elements

abbrev pub ElementFits : ElementSegment (List Instr) → Type 0
ElementFits s = EachOfElements ExprFits s × (element_count s < 2 ^ 32)

abbrev pub data_in : {E : Type 0} → DataSegment E → List ℕ
data_in (ActiveData memory offset bytes) = bytes
data_in (PassiveData bytes) = bytes

abbrev pub DataFits : DataSegment (List Instr) → Type 0
DataFits s = EachOfData ExprFits s × Counted (data_in s)

-- bodies (5.5.13); a count of locals of one type side by side is one too
pub record BodyFits (f : abstract.Function) : Type 0 where
  pub locals : LocalsFit f.body.locals
  pub instructions : ExprFits f.body.instructions
  pub size : Counted (body_bytes f.body)

-- what has neither counts nor lengths
abbrev pub NoCounts : {A : Type 0} → A → Type 0
NoCounts x = Unit {0}
