-- What the code's segments stand for; an expression is the bytes of its instructions.
use Rattle.std.specs.Prelude.{ℕ, ◌<◌, ◌^◌, true, false, Option, Some, None, List, length}
use Rattle.wasm_encoder_base.specs.Types.{RefType}
use Rattle.wasm_encoder_base.specs.Views.{ref_view}
use Rattle.wasm_encoder_items.specs.Views.{table_view, global_view}
use Rattle.wasm_encoder_items.specs.Segments as segments
use Rattle.wasm_encoder_items.specs.declared.elements.ElementMode.{ElementMode}
use Rattle.wasm_encoder_items.specs.declared.elements.ElementMode.TheVariants.{Passive, Declared, Active}
use Rattle.wasm_encoder_items.specs.declared.elements.Elements.{Elements}
use Rattle.wasm_encoder_items.specs.declared.elements.Elements.TheVariants.{Functions, Expressions}
use Rattle.wasm_encoder_items.specs.declared.elements.ElementSegment.{ElementSegment}
use Rattle.wasm_encoder_items.specs.declared.data.DataSegmentMode.{DataSegmentMode}
use Rattle.wasm_encoder_items.specs.declared.data.DataSegmentMode.TheVariants as modes
use Rattle.wasm_encoder_items.specs.declared.data.DataSegment.{DataSegment}
use Rattle.wasm_encoder_items.specs.declared.tables.InitTable.{InitTable}
use Rattle.wasm_encoder_items.specs.declared.tables.InitGlobal.{InitGlobal}

abbrev pub init_table_view : InitTable → segments.Table (List ℕ)
init_table_view t = segments.WithInit (table_view t.ty) t.init.now

abbrev pub init_global_view : InitGlobal → segments.Global (List ℕ)
init_global_view g = record { type = global_view g.ty; init = g.init.now }

abbrev pub data_mode_view : DataSegmentMode → List ℕ → segments.DataSegment (List ℕ)
data_mode_view (modes.Active memory offset) bytes = segments.ActiveData memory offset.now bytes
data_mode_view modes.Passive bytes = segments.PassiveData bytes

abbrev pub data_view : DataSegment → segments.DataSegment (List ℕ)
data_view s = data_mode_view s.mode s.bytes.now

abbrev pub active_functions : Option ℕ → List ℕ → List ℕ → segments.ElementSegment (List ℕ)
active_functions None offset functions = segments.ActiveFunctions offset functions
active_functions (Some table) offset functions = segments.ActiveTableFunctions table offset functions

abbrev pub functions_view : ElementMode → List ℕ → segments.ElementSegment (List ℕ)
functions_view Passive functions = segments.PassiveFunctions functions
functions_view Declared functions = segments.DeclaredFunctions functions
functions_view (Active table offset) functions = active_functions table offset.now functions

-- without a table, values of another type than funcref are written with table 0
abbrev pub active_expressions : Option ℕ → List ℕ → RefType → List (List ℕ) → segments.ElementSegment (List ℕ)
active_expressions None offset type elements = elim (segments.is_funcref type) [ true ↦ segments.ActiveExpressions offset elements | false ↦ segments.ActiveTableExpressions 0 offset type elements ]
active_expressions (Some table) offset type elements = segments.ActiveTableExpressions table offset type elements

abbrev pub expressions_view : ElementMode → RefType → List (List ℕ) → segments.ElementSegment (List ℕ)
expressions_view Passive type elements = segments.PassiveExpressions type elements
expressions_view Declared type elements = segments.DeclaredExpressions type elements
expressions_view (Active table offset) type elements = active_expressions table offset.now type elements

abbrev pub elements_view : ElementMode → Elements → segments.ElementSegment (List ℕ)
elements_view mode (Functions functions) = functions_view mode functions
elements_view mode (Expressions type elements) = expressions_view mode (ref_view type) elements

abbrev pub element_view : ElementSegment → segments.ElementSegment (List ℕ)
element_view s = elements_view s.mode s.elements

-- their count is a number of 32 bits
abbrev pub ElementsFit : Elements → Type 0
ElementsFit (Functions functions) = length functions < 2 ^ 32
ElementsFit (Expressions type elements) = length elements < 2 ^ 32
