-- What the grammar sees of the code's composite types and definitions.
use Rattle.std.specs.Prelude.{ℕ, map, option_map}
use Rattle.wast_grammar.specs.Tokens.{Name}
use Rattle.wast_parser.specs.Identifiers.{identifier_tree, index_tree}
use Rattle.wast_value_types.specs.ValueTree as values
use Rattle.wast_value_types.specs.ValueViews.{storage_tree}
use Rattle.wast_signatures.specs.TypeTree.{CompType}
use Rattle.wast_signatures.specs.TypeTree as spec
use Rattle.wast_signatures.specs.TypeTree.{InnerType, FuncType, StructType, ContType}
use Rattle.wast_signatures.specs.SignatureViews.{name_tree, sig_tree, struct_field_tree}
use Rattle.wast_core_types.specs.declared.composite.ArrayType.{ArrayType}
use Rattle.wast_core_types.specs.declared.composite.InnerTypeKind.{InnerTypeKind}
use Rattle.wast_core_types.specs.declared.composite.InnerTypeKind.TheVariants as kinds
use Rattle.wast_core_types.specs.declared.composite.CompositeType.{CompositeType}
use Rattle.wast_core_types.specs.declared.definition.TypeDef.{TypeDef}
use Rattle.wast_core_types.specs.declared.definition.TypeItem.{TypeItem}
use Rattle.wast_core_types.specs.declared.definition.Rec.{Rec}

-- COMPOSITE TYPES
abbrev pub array_tree : ArrayType → values.FieldType Name ℕ
array_tree t = record { mutable = t.mutable; storage = storage_tree t.ty }

abbrev pub inner_tree : InnerTypeKind → InnerType Name ℕ
inner_tree (kinds.Func t) = FuncType (sig_tree t)
inner_tree (kinds.Struct t) = StructType (map struct_field_tree t.fields.items)
inner_tree (kinds.Array t) = spec.ArrayType (array_tree t)
inner_tree (kinds.Cont t) = ContType (index_tree t.0)

abbrev pub comp_tree : CompositeType → CompType Name ℕ
comp_tree t = record { shared = t.shared; inner = inner_tree t.kind }

-- TYPE DEFINITIONS
abbrev pub definition_tree : TypeDef → spec.TypeDef Name ℕ
definition_tree d = record {
  is_final = d.final_type;
  supertype = option_map index_tree d.parent;
  describes = option_map index_tree d.describes;
  descriptor = option_map index_tree d.descriptor;
  comp = record { shared = d.shared; inner = inner_tree d.kind };
}

abbrev pub item_tree : TypeItem → spec.TypeItem Name ℕ
item_tree t = record { place = t.span; id = option_map identifier_tree t.id; given = option_map name_tree t.name; definition = definition_tree t.def }

abbrev pub rec_tree : Rec → spec.Rec Name ℕ
rec_tree r = record { place = r.span; types = map item_tree r.types.items }
