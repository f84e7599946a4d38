-- A section of fewer than 2^32 bytes has counts and lengths that are less: of its items, and in each of them.
use Rattle.std.proofs.Common.{ℕ, ◌<◌, ◌≤◌, ◌^◌, List, [], ◌∷◌, ◌++◌, length, arith, flat_map, length-append}
use Rattle.std.specs.Prelude.{All}
use Rattle.std.specs.List.{AllByRecursion}
use Rattle.std.proofs.lemmas.List.Elements.{All-nil, All-cons}
use Rattle.wasm_encoder_base.specs.Bytes.{counted, sized}
use Rattle.wasm_encoder_base.specs.Leb.{uleb}
use Rattle.wasm_encoder_base.specs.Instr.{Instr, instr_bytes, expr_bytes}
use Rattle.wasm_encoder_base.specs.Types.{StorageType, I8Type, I16Type, Value, storage_bytes, FieldType, mutable_byte, field_bytes, CompositeType, Function, Array, Struct, composite_bytes, SubType, supertype_bytes, sub_bytes, val_bytes, ref_bytes}
use Rattle.wasm_encoder_code.specs.Body.{Run, run_bytes, joined, locals_bytes, body_bytes}
use Rattle.wasm_encoder_items.specs.EntityTypes.{entity_bytes, table_bytes, global_bytes, limits_bytes}
use Rattle.wasm_encoder_items.specs.Imports.{Imports, One, OfModule, OfType, Named, named_bytes, imports_bytes, Export, export_bytes, export_code}
use Rattle.wasm_encoder_items.specs.Segments.{ElementSegment, ActiveFunctions, PassiveFunctions, ActiveTableFunctions, DeclaredFunctions, ActiveExpressions, PassiveExpressions, ActiveTableExpressions, DeclaredExpressions, element_bytes, DataSegment, ActiveData, PassiveData, memory_bytes, data_bytes, Table, WithoutInit, WithInit, table_item, Global, global_item}
use Rattle.wasm_encoder_items.specs.TypeEntries.{TypeEntry, OneType, TypeGroup, entry_bytes}
use Rattle.wasm_encoder_sections.specs.Codes.{function_item}
use Rattle.wasm_layout.specs.AbstractModule as abstract
use Rattle.wast_section_items.specs.Fits.{Counted, CompositeFits, EntryFits, ImportsFit, ExportFits, ExprFits, TableFits, GlobalFits, ElementFits, DataFits, BodyFits}
use Rattle.wast_custom_sections.proofs.Sizes.{uleb_some, sized_size, cons_size, counted_size}
use Rattle.wast_custom_sections.proofs.Counts.{reference_some, val_some, counted_count, instr_fits}

-- LISTS
module _ {A : Type 0} (f : A → List ℕ) (Fits : A → Type 0) (each : (x : A) → length (f x) < 2 ^ 32 → Fits x) where
  pub all_fit : (xs : List A) → length (flat_map f xs) < 2 ^ 32 → AllByRecursion Fits xs
  all_fit [] h = tt
  all_fit (x ∷ xs) h =
      let e = cons_size f x xs in
      let front : length (f x) < 2 ^ 32 = omega arith in
      let rest : length (flat_map f xs) < 2 ^ 32 = omega arith in
      (each x front, all_fit xs rest)

  pub all_fit_so : (xs : List A) → length (flat_map f xs) < 2 ^ 32 → All Fits xs
  all_fit_so [] h = All-nil Fits
  all_fit_so (x ∷ xs) h =
      let e = cons_size f x xs in
      let front : length (f x) < 2 ^ 32 = omega arith in
      let rest : length (flat_map f xs) < 2 ^ 32 = omega arith in
      All-cons Fits x xs (each x front) (all_fit_so xs rest)

  -- a list behind its count
  pub list_fits : ((x : A) → 1 ≤ length (f x)) → (xs : List A) → length (counted f xs) < 2 ^ 32 → (length xs < 2 ^ 32) × AllByRecursion Fits xs
  list_fits some xs h =
      let c = counted_count f some xs in
      let less = counted_size f xs in
      let rest : length (flat_map f xs) < 2 ^ 32 = omega arith in
      (omega arith, all_fit xs rest)

-- TYPES (5.3)
storage_some : (t : StorageType) → 1 ≤ length (storage_bytes t)
storage_some I8Type = omega arith
storage_some I16Type = omega arith
storage_some (Value t) = val_some t

field_some : (t : FieldType) → 1 ≤ length (field_bytes t)
field_some t = omega (arith, storage_some t.element_type, length-append (storage_bytes t.element_type) (mutable_byte t.mutable ∷ []))

composite_some : (t : CompositeType) → 1 ≤ length (composite_bytes t)
composite_some (Function f) = omega arith
composite_some (Array t) = omega arith
composite_some (Struct fs) = omega arith

sub_some : (t : SubType) → 1 ≤ length (sub_bytes t)
sub_some t = omega (arith, composite_some t.composite_type, length-append (supertype_bytes t.is_final t.supertype) (composite_bytes t.composite_type))

composite_fits : (t : CompositeType) → length (composite_bytes t) < 2 ^ 32 → CompositeFits t
composite_fits (Function f) h = (
  omega (arith, h, counted_count val_bytes val_some f.params, length-append (counted val_bytes f.params) (counted val_bytes f.results)),
  omega (arith, h, counted_count val_bytes val_some f.results, length-append (counted val_bytes f.params) (counted val_bytes f.results)),
)
composite_fits (Struct fs) h = omega (arith, h, counted_count field_bytes field_some fs)
composite_fits (Array t) h = tt

sub_fits : (t : SubType) → length (sub_bytes t) < 2 ^ 32 → CompositeFits t.composite_type
sub_fits t h =
    let less : length (composite_bytes t.composite_type) < 2 ^ 32 = omega (arith, h, length-append (supertype_bytes t.is_final t.supertype) (composite_bytes t.composite_type)) in
    composite_fits t.composite_type less

pub entry_some : (t : TypeEntry) → 1 ≤ length (entry_bytes t)
entry_some (OneType t) = sub_some t
entry_some (TypeGroup ts) = omega arith

pub entry_fits : (t : TypeEntry) → length (entry_bytes t) < 2 ^ 32 → EntryFits t
entry_fits (OneType t) h = sub_fits t h
entry_fits (TypeGroup ts) h = let less : length (counted sub_bytes ts) < 2 ^ 32 = omega (arith, h) in list_fits sub_bytes (λ t. CompositeFits t.composite_type) sub_fits sub_some ts less

-- IMPORTS AND EXPORTS (5.5.5 and 5.5.10)
sized_fits : (name : List ℕ) → length (sized name) < 2 ^ 32 → Counted name
sized_fits name h = omega (arith, h, sized_size name)

sized_some : (name : List ℕ) → 1 ≤ length (sized name)
sized_some name = omega (arith, sized_size name)

named_some : (n : Named) → 1 ≤ length (named_bytes n)
named_some n = omega (arith, sized_some n.name, length-append (sized n.name) (entity_bytes n.type))

named_fits : (n : Named) → length (named_bytes n) < 2 ^ 32 → Counted n.name
named_fits n h = omega (arith, h, sized_size n.name, length-append (sized n.name) (entity_bytes n.type))

pub imports_some : (i : Imports) → 1 ≤ length (imports_bytes i)
imports_some (One i) = omega (arith, sized_some i.module_name, length-append (sized i.module_name) (sized i.name ++ entity_bytes i.type))
imports_some (OfModule from items) = omega (arith, sized_some from, length-append (sized from) (0x00 ∷ 0x7F ∷ counted named_bytes items))
imports_some (OfType from type names) = omega (arith, sized_some from, length-append (sized from) (0x00 ∷ 0x7E ∷ (entity_bytes type ++ counted sized names)))

pub imports_fit : (i : Imports) → length (imports_bytes i) < 2 ^ 32 → ImportsFit i
imports_fit (One i) h =
    let outer = length-append (sized i.module_name) (sized i.name ++ entity_bytes i.type) in
    let inner = length-append (sized i.name) (entity_bytes i.type) in
    (omega (arith, h, outer, sized_size i.module_name), omega (arith, h, outer, inner, sized_size i.name))
imports_fit (OfModule from items) h =
    let outer = length-append (sized from) (0x00 ∷ 0x7F ∷ counted named_bytes items) in
    let less : length (counted named_bytes items) < 2 ^ 32 = omega (arith, h, outer) in
    let each = list_fits named_bytes (λ n. Counted n.name) named_fits named_some items less in
    (omega (arith, h, outer, sized_size from), each.0, each.1)
imports_fit (OfType from type names) h =
    let outer = length-append (sized from) (0x00 ∷ 0x7E ∷ (entity_bytes type ++ counted sized names)) in
    let inner = length-append (entity_bytes type) (counted sized names) in
    let less : length (counted sized names) < 2 ^ 32 = omega (arith, h, outer, inner) in
    let each = list_fits sized Counted sized_fits sized_some names less in
    (omega (arith, h, outer, sized_size from), each.0, each.1)

pub export_some : (e : Export) → 1 ≤ length (export_bytes e)
export_some e = omega (arith, sized_some e.name, length-append (sized e.name) (export_code e.kind ∷ uleb e.index))

pub export_fits : (e : Export) → length (export_bytes e) < 2 ^ 32 → ExportFits e
export_fits e h = omega (arith, h, sized_size e.name, length-append (sized e.name) (export_code e.kind ∷ uleb e.index))

-- EXPRESSIONS (5.4)
pub expr_fits : (is : List Instr) → length (expr_bytes is) < 2 ^ 32 → ExprFits is
expr_fits is h =
    let less : length (flat_map instr_bytes is) < 2 ^ 32 = omega (arith, h, length-append (flat_map instr_bytes is) (0x0B ∷ [])) in
    all_fit_so instr_bytes _ instr_fits is less

expr_some : (is : List Instr) → 1 ≤ length (expr_bytes is)
expr_some is = omega (arith, length-append (flat_map instr_bytes is) (0x0B ∷ []))

-- TABLES AND GLOBALS (5.5.7 and 5.5.9)
ref_some : (t : _) → 1 ≤ length (ref_bytes t)
ref_some t = reference_some t.nullable t.heap_type

table_some : (t : _) → 1 ≤ length (table_bytes t)
table_some t = omega (arith, ref_some t.element_type, length-append (ref_bytes t.element_type) (limits_bytes t.limits))

pub table_item_some : (t : Table (List Instr)) → 1 ≤ length (table_item expr_bytes t)
table_item_some (WithoutInit t) = table_some t
table_item_some (WithInit t init) = omega arith

pub table_item_fits : (t : Table (List Instr)) → length (table_item expr_bytes t) < 2 ^ 32 → TableFits t
table_item_fits (WithoutInit t) h = tt
table_item_fits (WithInit t init) h = let less : length (expr_bytes init) < 2 ^ 32 = omega (arith, h, length-append (table_bytes t) (expr_bytes init)) in expr_fits init less

pub global_item_some : (g : Global (List Instr)) → 1 ≤ length (global_item expr_bytes g)
global_item_some g = omega (arith, expr_some g.init, length-append (global_bytes g.type) (expr_bytes g.init))

pub global_item_fits : (g : Global (List Instr)) → length (global_item expr_bytes g) < 2 ^ 32 → GlobalFits g
global_item_fits g h = let less : length (expr_bytes g.init) < 2 ^ 32 = omega (arith, h, length-append (global_bytes g.type) (expr_bytes g.init)) in expr_fits g.init less

-- SEGMENTS (5.5.12 and 5.5.14)
pub element_some : (s : ElementSegment (List Instr)) → 1 ≤ length (element_bytes expr_bytes s)
element_some (ActiveFunctions offset functions) = omega arith
element_some (PassiveFunctions functions) = omega arith
element_some (ActiveTableFunctions table offset functions) = omega arith
element_some (DeclaredFunctions functions) = omega arith
element_some (ActiveExpressions offset elements) = omega arith
element_some (PassiveExpressions type elements) = omega arith
element_some (ActiveTableExpressions table offset type elements) = omega arith
element_some (DeclaredExpressions type elements) = omega arith

exprs_fit : (es : List (List Instr)) → length (counted expr_bytes es) < 2 ^ 32 → (length es < 2 ^ 32) × AllByRecursion ExprFits es
exprs_fit es h = list_fits expr_bytes ExprFits expr_fits expr_some es h

indices_fit : (is : List ℕ) → length (counted uleb is) < 2 ^ 32 → length is < 2 ^ 32
indices_fit is h = omega (arith, h, counted_count uleb uleb_some is)

pub element_fits : (s : ElementSegment (List Instr)) → length (element_bytes expr_bytes s) < 2 ^ 32 → ElementFits s
element_fits (ActiveFunctions offset functions) h =
    let parts = length-append (expr_bytes offset) (counted uleb functions) in
    let first : length (expr_bytes offset) < 2 ^ 32 = omega (arith, h, parts) in
    let second : length (counted uleb functions) < 2 ^ 32 = omega (arith, h, parts) in
    (expr_fits offset first, indices_fit functions second)
element_fits (PassiveFunctions functions) h = let less : length (counted uleb functions) < 2 ^ 32 = omega (arith, h) in (tt, indices_fit functions less)
element_fits (ActiveTableFunctions table offset functions) h =
    let outer = length-append (uleb table) (expr_bytes offset ++ (0x00 ∷ counted uleb functions)) in
    let parts = length-append (expr_bytes offset) (0x00 ∷ counted uleb functions) in
    let first : length (expr_bytes offset) < 2 ^ 32 = omega (arith, h, outer, parts) in
    let second : length (counted uleb functions) < 2 ^ 32 = omega (arith, h, outer, parts) in
    (expr_fits offset first, indices_fit functions second)
element_fits (DeclaredFunctions functions) h = let less : length (counted uleb functions) < 2 ^ 32 = omega (arith, h) in (tt, indices_fit functions less)
element_fits (ActiveExpressions offset elements) h =
    let parts = length-append (expr_bytes offset) (counted expr_bytes elements) in
    let first : length (expr_bytes offset) < 2 ^ 32 = omega (arith, h, parts) in
    let second : length (counted expr_bytes elements) < 2 ^ 32 = omega (arith, h, parts) in
    let each = exprs_fit elements second in
    ((expr_fits offset first, each.1), each.0)
element_fits (PassiveExpressions type elements) h =
    let parts = length-append (ref_bytes type) (counted expr_bytes elements) in
    let less : length (counted expr_bytes elements) < 2 ^ 32 = omega (arith, h, parts) in
    let each = exprs_fit elements less in
    (each.1, each.0)
element_fits (ActiveTableExpressions table offset type elements) h =
    let outer = length-append (uleb table) (expr_bytes offset ++ (ref_bytes type ++ counted expr_bytes elements)) in
    let middle = length-append (expr_bytes offset) (ref_bytes type ++ counted expr_bytes elements) in
    let parts = length-append (ref_bytes type) (counted expr_bytes elements) in
    let first : length (expr_bytes offset) < 2 ^ 32 = omega (arith, h, outer, middle) in
    let second : length (counted expr_bytes elements) < 2 ^ 32 = omega (arith, h, outer, middle, parts) in
    let each = exprs_fit elements second in
    ((expr_fits offset first, each.1), each.0)
element_fits (DeclaredExpressions type elements) h =
    let parts = length-append (ref_bytes type) (counted expr_bytes elements) in
    let less : length (counted expr_bytes elements) < 2 ^ 32 = omega (arith, h, parts) in
    let each = exprs_fit elements less in
    (each.1, each.0)

pub data_some : (s : DataSegment (List Instr)) → 1 ≤ length (data_bytes expr_bytes s)
data_some (ActiveData memory offset bytes) = omega (arith, sized_some bytes, length-append (memory_bytes memory) (expr_bytes offset ++ sized bytes), length-append (expr_bytes offset) (sized bytes))
data_some (PassiveData bytes) = omega arith

pub data_fits : (s : DataSegment (List Instr)) → length (data_bytes expr_bytes s) < 2 ^ 32 → DataFits s
data_fits (ActiveData memory offset bytes) h =
    let outer = length-append (memory_bytes memory) (expr_bytes offset ++ sized bytes) in
    let parts = length-append (expr_bytes offset) (sized bytes) in
    let first : length (expr_bytes offset) < 2 ^ 32 = omega (arith, h, outer, parts) in
    let second : length (sized bytes) < 2 ^ 32 = omega (arith, h, outer, parts) in
    (expr_fits offset first, sized_fits bytes second)
data_fits (PassiveData bytes) h = let less : length (sized bytes) < 2 ^ 32 = omega (arith, h) in (tt, sized_fits bytes less)

-- BODIES (5.5.13), where each run of locals has a count of 32 bits
run_some : (r : Run) → 1 ≤ length (run_bytes r)
run_some r = omega (arith, val_some r.val_type, length-append (uleb r.count) (val_bytes r.val_type))

pub code_some : (f : abstract.Function) → 1 ≤ length (function_item (body_bytes f.body))
code_some f = sized_some (body_bytes f.body)

pub code_fits : (f : abstract.Function) → AllByRecursion (λ r. r.count < 2 ^ 32) (joined f.body.locals) → length (function_item (body_bytes f.body)) < 2 ^ 32 → BodyFits f
code_fits f runs h =
    let size = sized_fits (body_bytes f.body) h in
    let parts = length-append (locals_bytes f.body.locals) (expr_bytes f.body.instructions) in
    let first : length (locals_bytes f.body.locals) < 2 ^ 32 = omega (arith, size, parts) in
    let second : length (expr_bytes f.body.instructions) < 2 ^ 32 = omega (arith, size, parts) in
    record {
      locals = record { runs = omega (arith, first, counted_count run_bytes run_some (joined f.body.locals)); counts = runs };
      instructions = expr_fits f.body.instructions second;
      size = size;
    }

pub codes_fit : (fs : List abstract.Function) → AllByRecursion (λ f. AllByRecursion (λ r. r.count < 2 ^ 32) (joined f.body.locals)) fs → length (flat_map (λ f. function_item (body_bytes f.body)) fs) < 2 ^ 32 → AllByRecursion BodyFits fs
codes_fit [] runs h = tt
codes_fit (f ∷ fs) runs h =
    let e = cons_size (λ f. function_item (body_bytes f.body)) f fs in
    let front : length (function_item (body_bytes f.body)) < 2 ^ 32 = omega arith in
    let rest : length (flat_map (λ f. function_item (body_bytes f.body)) fs) < 2 ^ 32 = omega arith in
    (code_fits f runs.0 front, codes_fit fs runs.1 rest)
