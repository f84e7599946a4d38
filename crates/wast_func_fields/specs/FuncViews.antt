-- What the grammar sees of the code's functions, globals and tags.
use Rattle.std.specs.Prelude.{ℕ, Bool, true, false, List, map, option_map}
use Rattle.wast_field_syntax.specs.Tokens.{Name}
use Rattle.wast_field_syntax.specs.Identifiers.{identifier_tree}
use Rattle.wast_value_types.specs.ValueViews.{val_tree, global_tree}
use Rattle.wast_value_types.specs.declared.global_type.GlobalType.{GlobalType}
use Rattle.wast_signatures.specs.TypeTree as types
use Rattle.wast_signatures.specs.SignatureViews.{name_tree, use_tree}
use Rattle.wast_signatures.specs.declared.signature.FunctionType.{FunctionType}
use Rattle.wast_signatures.specs.declared.type_use.TypeUse.{TypeUse}
use Rattle.wast_field_syntax.specs.Expression.{Expression}
use Rattle.wast_field_syntax.specs.ExpressionViews.{expression_tree}
use Rattle.wast_field_syntax.specs.ExportViews.{inline_export_tree}
use Rattle.wast_imports.specs.ImportTree.{ExternType, OfFunc, OfExactFunc, OfGlobal, OfTag}
use Rattle.wast_imports.specs.ImportViews.{tag_tree}
use Rattle.wast_imports.specs.declared.item.TagType.{TagType}
use Rattle.wast_field_syntax.specs.FieldTree as spec
use Rattle.wast_func_fields.specs.declared.local.Local.{Local}
use Rattle.wast_func_fields.specs.declared.func.Func.{Func}
use Rattle.wast_func_fields.specs.declared.func.FuncKind.{FuncKind}
use Rattle.wast_func_fields.specs.declared.func.FuncKind.TheVariants as funcs
use Rattle.wast_func_fields.specs.declared.global.Global.{Global}
use Rattle.wast_func_fields.specs.declared.global.GlobalKind.{GlobalKind}
use Rattle.wast_func_fields.specs.declared.global.GlobalKind.TheVariants as globals
use Rattle.wast_func_fields.specs.declared.tag.Tag.{Tag}
use Rattle.wast_func_fields.specs.declared.tag.TagKind.{TagKind}
use Rattle.wast_func_fields.specs.declared.tag.TagKind.TheVariants as tags
use Rattle.wast_field_syntax.specs.InlineViews.{imported}

abbrev pub local_tree : Local → types.Local Name ℕ
local_tree l = record { id = option_map identifier_tree l.id; given = option_map name_tree l.name; val_type = val_tree l.ty }

abbrev pub defined_tag : TagKind → TagType → spec.Defined Name ℕ
defined_tag (tags.Import i) ty = imported i (OfTag (tag_tree ty))
defined_tag tags.Inline ty = spec.Tag (tag_tree ty)

abbrev pub tag_definition : Tag → spec.Definition Name ℕ
tag_definition t = record { place = t.span; id = option_map identifier_tree t.id; given = option_map name_tree t.name; exports = inline_export_tree t.exports; defined = defined_tag t.kind t.ty }

abbrev pub defined_global : GlobalType → GlobalKind → spec.Defined Name ℕ
defined_global ty (globals.Import i) = imported i (OfGlobal (global_tree ty))
defined_global ty (globals.Inline init) = spec.Global (global_tree ty) (expression_tree init)

abbrev pub global_definition : Global → spec.Definition Name ℕ
global_definition g = record { place = g.span; id = option_map identifier_tree g.id; given = option_map name_tree g.name; exports = inline_export_tree g.exports; defined = defined_global g.ty g.kind }

-- functions of a type, and those of exactly that type
abbrev pub func_type_tree : Bool → TypeUse FunctionType → ExternType Name ℕ
func_type_tree true ty = OfExactFunc (use_tree ty)
func_type_tree false ty = OfFunc (use_tree ty)

-- the function of these parts
abbrev pub function_tree : TypeUse FunctionType → List Local → Expression → spec.Function Name ℕ
function_tree ty locals body = record { type_use = use_tree ty; locals = map local_tree locals; body = expression_tree body }

abbrev pub defined_func : FuncKind → TypeUse FunctionType → spec.Defined Name ℕ
defined_func (funcs.Import i is_exact) ty = imported i (func_type_tree is_exact ty)
defined_func (funcs.Inline locals body) ty = spec.Func (function_tree ty locals.items body)

abbrev pub func_definition : Func → spec.Definition Name ℕ
func_definition f = record { place = f.span; id = option_map identifier_tree f.id; given = option_map name_tree f.name; exports = inline_export_tree f.exports; defined = defined_func f.kind f.ty }
