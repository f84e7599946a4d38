-- Definitions as the code has them, whatever they define.
use Rattle.std.specs.Prelude.{ℕ, Bool, true, false, ◌&&◌, not, List, ◌∷◌, ◌++◌, map, option_map}
use Rattle.wast_grammar.specs.Tokens.{Name}
use Rattle.wast_parser.specs.Identifiers.{Named, identifier_tree}
use Rattle.wast_signatures.specs.SignatureViews.{name_tree}
use Rattle.wast_exports.specs.ExportViews.{inline_export_tree}
use Rattle.wast_module_fields.specs.FieldTree as spec
use Rattle.wast_module_fields.specs.FieldTree.{Field, Define, Imported}
use Rattle.wast_module_fields.specs.FuncViews.{defined_func, defined_global, defined_tag}
use Rattle.wast_module_fields.specs.MemoryViews.{defined_memory}
use Rattle.wast_module_fields.specs.ElemViews.{defined_table}
use Rattle.wast_meaning.specs.Written.{field_of, export_of, segment_of, kind_of, is_said}
use Rattle.wast_deinline.specs.declared.definition.Definition.{Definition}
use Rattle.wast_deinline.specs.declared.definition.Defined.{Defined}
use Rattle.wast_deinline.specs.declared.definition.Defined.TheVariants as kinds

abbrev pub defined_view : Defined → spec.Defined Name ℕ
defined_view (kinds.Func kind ty) = defined_func kind ty
defined_view (kinds.Table kind) = defined_table kind
defined_view (kinds.Memory kind) = defined_memory kind
defined_view (kinds.Global kind ty) = defined_global ty kind
defined_view (kinds.Tag kind ty) = defined_tag kind ty

abbrev pub definition_view : Definition → spec.Definition Name ℕ
definition_view d = record { place = d.span; id = option_map identifier_tree d.id; given = option_map name_tree d.name; exports = inline_export_tree d.exports; defined = defined_view d.defined }

module _ {N P : Type 0} where
  abbrev pub is_definition : Field N P → Bool
  is_definition (Define d) = true
  is_definition f = false

  abbrev pub is_imported : spec.Defined N P → Bool
  is_imported (Imported from name t) = true
  is_imported d = false

  -- whether nothing of a field stands inline, so that it is written out as itself
  abbrev pub stands_alone : Field N P → Bool
  stands_alone (Define d) = not (is_said d) && not (is_imported d.defined)
  stands_alone f = true

  -- a definition, then its exports, then its segment, which refer to it by this name
  abbrev pub parts_out : Named N P → spec.Definition N P → List (Field N P)
  parts_out own d = field_of d.place d.id d.given d.defined ∷ map (export_of d.place (kind_of d.defined) own) d.exports ++ segment_of d.place own d.defined
