-- The fields of a module as items of sections (WebAssembly 3.0, 6.6 and 5.5). Nothing stands inline in them, uses have their types, and indices
-- are numbers.
use Rattle.std.specs.Prelude.{ℕ, true, false, List, [], ◌∷◌, map, Option, Some, None, unwrap_or}
use Rattle.std.specs.List.{flat_map}
use Rattle.wasm_encoder_base.specs.Instr.{Instr}
use Rattle.wasm_encoder_items.specs.EntityTypes as binary
use Rattle.wasm_encoder_items.specs.Imports as imports
use Rattle.wasm_encoder_items.specs.Segments as segments
use Rattle.wasm_encoder_items.specs.TypeEntries.{TypeEntry}
use Rattle.wast_parser.specs.Identifiers.{Reference}
use Rattle.wast_imports.specs.ImportTree.{ImportItems, Single, Group1, Group2}
use Rattle.wast_data.specs.DataTree.{DataVal, bytes_of}
use Rattle.wast_field_syntax.specs.FieldTree.{Expr, Function, Elements, Indices, Expressions, Defined, Func, Table, Memory, Global, Tag, ElemMode, PassiveElem, DeclaredElem, ActiveElem, DataMode, PassiveData, ActiveData, Field, TypeField, RecField, ImportField, Define, ExportField, StartField, ElemField, DataField}
use Rattle.wasm_layout.specs.AbstractModule as abstract
use Rattle.wast_conversions.specs.Types.{number_of, ref_meant, val_meant, type_meant, rec_meant, use_meant, memory_meant, table_meant, global_meant, extern_meant, export_kind_meant}
use Rattle.wast_conversions.specs.Operands.{optional_meant}
use Rattle.wast_conversions.specs.Instructions.{instrs_meant}

-- the bytes of a data segment (6.6, data segments)
abbrev pub values_of : List DataVal → List ℕ
values_of vs = flat_map (λ v. unwrap_or (bytes_of v) []) vs

module _ {N P : Type 0} where
  -- the instructions of an expression
  abbrev pub expr_meant : Expr N P → List Instr
  expr_meant e = instrs_meant e.instrs

  -- types, alone and in groups (6.4.7)
  abbrev pub types_of : Field N P → List TypeEntry
  types_of (TypeField t) = type_meant t ∷ []
  types_of (RecField r) = rec_meant r ∷ []
  types_of f = []

  -- imports, one by one and in groups (6.6, imports)
  abbrev pub import_of : (from : List ℕ) → ImportItems N P → imports.Imports
  import_of from (Single name i) = imports.One (record { module_name = from; name = name; type = extern_meant i.extern_type })
  import_of from (Group1 is) = imports.OfModule from (map (λ i. record { name = i.0; type = extern_meant i.1.extern_type }) is)
  import_of from (Group2 names i) = imports.OfType from (extern_meant i.extern_type) names

  abbrev pub imports_of : Field N P → List imports.Imports
  imports_of (ImportField i) = import_of i.from i.items ∷ []
  imports_of f = []

  -- what is defined
  abbrev pub defined_in : Field N P → List (Defined N P)
  defined_in (Define d) = d.defined ∷ []
  defined_in f = []

  -- functions (6.6, functions)
  abbrev pub function_of : Function N P → abstract.Function
  function_of f = record { type_index = use_meant f.type_use; body = record { locals = map (λ l. val_meant l.val_type) f.locals; instructions = expr_meant f.body } }

  abbrev pub functions_of : Defined N P → List abstract.Function
  functions_of (Func f) = function_of f ∷ []
  functions_of d = []

  -- tables (6.6, tables)
  abbrev pub table_of : binary.TableType → Option (Expr N P) → segments.Table (List Instr)
  table_of t None = segments.WithoutInit t
  table_of t (Some init) = segments.WithInit t (expr_meant init)

  abbrev pub tables_of : Defined N P → List (segments.Table (List Instr))
  tables_of (Table t init) = table_of (table_meant t) init ∷ []
  tables_of d = []

  -- memories (6.6, memories)
  abbrev pub memories_of : Defined N P → List binary.Limits
  memories_of (Memory t) = memory_meant t ∷ []
  memories_of d = []

  -- tags (6.6, tags)
  abbrev pub tags_of : Defined N P → List ℕ
  tags_of (Tag u) = use_meant u ∷ []
  tags_of d = []

  -- globals (6.6, globals)
  abbrev pub globals_of : Defined N P → List (segments.Global (List Instr))
  globals_of (Global t init) = record { type = global_meant t; init = expr_meant init } ∷ []
  globals_of d = []

  -- exports (6.6, exports)
  abbrev pub exports_of : Field N P → List imports.Export
  exports_of (ExportField e) = record { name = e.name; kind = export_kind_meant e.kind; index = number_of e.item } ∷ []
  exports_of f = []

  -- the start function (6.6, start function)
  abbrev pub starts_of : Field N P → List ℕ
  starts_of (StartField s) = number_of s.func ∷ []
  starts_of f = []

  -- Element segments (6.6, element segments). Without a table that is written values of another type than funcref stand in table 0.
  abbrev pub active_of : Option (Reference N P) → List Instr → Elements N P → segments.ElementSegment (List Instr)
  active_of None offset (Indices is) = segments.ActiveFunctions offset (map number_of is)
  active_of (Some table) offset (Indices is) = segments.ActiveTableFunctions (number_of table) offset (map number_of is)
  active_of None offset (Expressions t es) = elim (segments.is_funcref (ref_meant t)) [
    | true ↦ segments.ActiveExpressions offset (map expr_meant es)
    | false ↦ segments.ActiveTableExpressions 0 offset (ref_meant t) (map expr_meant es)
  ]
  active_of (Some table) offset (Expressions t es) = segments.ActiveTableExpressions (number_of table) offset (ref_meant t) (map expr_meant es)

  abbrev pub element_of : ElemMode N P → Elements N P → segments.ElementSegment (List Instr)
  element_of PassiveElem (Indices is) = segments.PassiveFunctions (map number_of is)
  element_of PassiveElem (Expressions t es) = segments.PassiveExpressions (ref_meant t) (map expr_meant es)
  element_of DeclaredElem (Indices is) = segments.DeclaredFunctions (map number_of is)
  element_of DeclaredElem (Expressions t es) = segments.DeclaredExpressions (ref_meant t) (map expr_meant es)
  element_of (ActiveElem table offset) elements = active_of table (expr_meant offset) elements

  abbrev pub elements_of : Field N P → List (segments.ElementSegment (List Instr))
  elements_of (ElemField e) = element_of e.mode e.elements ∷ []
  elements_of f = []

  -- data segments (6.6, data segments)
  abbrev pub data_of : DataMode N P → List ℕ → segments.DataSegment (List Instr)
  data_of PassiveData bytes = segments.PassiveData bytes
  data_of (ActiveData memory offset) bytes = segments.ActiveData (optional_meant memory) (expr_meant offset) bytes

  abbrev pub datas_of : Field N P → List (segments.DataSegment (List Instr))
  datas_of (DataField d) = data_of d.mode (values_of d.values) ∷ []
  datas_of f = []
