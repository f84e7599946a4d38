-- What the grammar sees of the code's tables and element segments.
use Rattle.std.specs.Prelude.{ℕ, map, option_map}
use Rattle.wast_field_syntax.specs.Tokens.{Name}
use Rattle.wast_field_syntax.specs.Identifiers.{identifier_tree, index_tree}
use Rattle.wast_value_types.specs.ValueViews.{ref_tree, table_tree}
use Rattle.wast_field_syntax.specs.SignatureViews.{name_tree}
use Rattle.wast_field_syntax.specs.ExpressionViews.{expression_tree}
use Rattle.wast_exports.specs.ExportViews.{inline_export_tree}
use Rattle.wast_field_syntax.specs.ImportTree.{OfTable}
use Rattle.wast_field_syntax.specs.FieldTree as spec
use Rattle.wast_field_syntax.specs.InlineViews.{imported}
use Rattle.wast_table_fields.specs.declared.elem.ElemPayload.{ElemPayload}
use Rattle.wast_table_fields.specs.declared.elem.ElemPayload.TheVariants as payloads
use Rattle.wast_table_fields.specs.declared.elem.ElemKind.{ElemKind}
use Rattle.wast_table_fields.specs.declared.elem.ElemKind.TheVariants as modes
use Rattle.wast_table_fields.specs.declared.elem.Elem.{Elem}
use Rattle.wast_table_fields.specs.declared.table.TableKind.{TableKind}
use Rattle.wast_table_fields.specs.declared.table.TableKind.TheVariants as tables
use Rattle.wast_table_fields.specs.declared.table.Table.{Table}

-- ELEMENT SEGMENTS
abbrev pub elements_tree : ElemPayload → spec.Elements Name ℕ
elements_tree (payloads.Indices indices) = spec.Indices (map index_tree indices.items)
elements_tree (payloads.Exprs ty exprs) = spec.Expressions (ref_tree ty) (map expression_tree exprs.items)

abbrev pub mode_tree : ElemKind → spec.ElemMode Name ℕ
mode_tree modes.Passive = spec.PassiveElem
mode_tree modes.Declared = spec.DeclaredElem
mode_tree (modes.Active table offset) = spec.ActiveElem (option_map index_tree table) (expression_tree offset)

abbrev pub elem_tree : Elem → spec.Elem Name ℕ
elem_tree e = record { place = e.span; id = option_map identifier_tree e.id; given = option_map name_tree e.name; mode = mode_tree e.kind; elements = elements_tree e.payload }

-- TABLES
abbrev pub defined_table : TableKind → spec.Defined Name ℕ
defined_table (tables.Import i ty) = imported i (OfTable (table_tree ty))
defined_table (tables.Normal ty init_expr) = spec.Table (table_tree ty) (option_map expression_tree init_expr)
defined_table (tables.Inline is_wide elem payload) = spec.TableOf is_wide (ref_tree elem) (elements_tree payload)

abbrev pub table_definition : Table → spec.Definition Name ℕ
table_definition t = record { place = t.span; id = option_map identifier_tree t.id; given = option_map name_tree t.name; exports = inline_export_tree t.exports; defined = defined_table t.kind }
