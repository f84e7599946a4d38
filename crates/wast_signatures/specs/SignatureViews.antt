-- What the grammar sees of the code's signatures, type uses and fields of structures.
use Rattle.std.specs.Prelude.{ℕ, List, Option, map, option_map}
use Rattle.std.specs.Cow.{cow_str_bytes}
use Rattle.wast_value_types.specs.Tokens.{Name}
use Rattle.wast_parser_base.specs.Identifier.{Identifier}
use Rattle.wast_parser_base.specs.declared.index.NameAnnotation.{NameAnnotation}
use Rattle.wast_value_types.specs.Identifiers.{identifier_tree, index_tree}
use Rattle.wast_value_types.specs.ValueViews.{val_tree, storage_tree}
use Rattle.wast_value_types.specs.declared.val_type.ValType.{ValType}
use Rattle.wast_signatures.specs.TypeTree.{Local, Sig}
use Rattle.wast_signatures.specs.TypeTree as spec
use Rattle.wast_signatures.specs.declared.signature.FunctionType.{FunctionType}
use Rattle.wast_signatures.specs.declared.struct_field.StructField.{StructField}
use Rattle.wast_signatures.specs.declared.type_use.TypeUse.{TypeUse}

abbrev pub name_tree : NameAnnotation → List ℕ
name_tree a = cow_str_bytes a.name

-- SIGNATURES
abbrev pub param_tree : Option Identifier × Option NameAnnotation × ValType → Local Name ℕ
param_tree p = record { id = option_map identifier_tree p.0; given = option_map name_tree p.1; val_type = val_tree p.2 }

abbrev pub sig_tree : FunctionType → Sig Name ℕ
sig_tree t = record { params = map param_tree t.params.items; results = map val_tree t.results.items }

abbrev pub use_tree : TypeUse FunctionType → spec.TypeUse Name ℕ
use_tree u = record { index = option_map index_tree u.index; inline = option_map sig_tree u.inline }

-- FIELDS OF STRUCTURES
abbrev pub struct_field_tree : StructField → spec.StructField Name ℕ
struct_field_tree f = record { id = option_map identifier_tree f.id; field_type = record { mutable = f.mutable; storage = storage_tree f.ty } }
