-- What the grammar sees of the code's modules.
use Rattle.std.specs.Prelude.{ℕ, map, option_map}
use Rattle.wast_grammar.specs.Tokens.{Name}
use Rattle.wast_parser.specs.Identifiers.{identifier_tree}
use Rattle.wast_signatures.specs.SignatureViews.{name_tree}
use Rattle.wast_module_fields.specs.FieldTree as spec
use Rattle.wast_module_fields.specs.ModuleFieldViews.{field_tree}
use Rattle.wast_core.specs.declared.module.ModuleKind.{ModuleKind}
use Rattle.wast_core.specs.declared.module.ModuleKind.TheVariants as contents
use Rattle.wast_core.specs.declared.module.Module.{Module}

abbrev pub content_tree : ModuleKind → spec.Content Name ℕ
content_tree (contents.Text fields) = spec.Fields (map field_tree fields.items)
content_tree (contents.Binary pieces) = spec.Pieces pieces.items

abbrev pub module_tree : Module → spec.Module Name ℕ
module_tree m = record { place = m.span; id = option_map identifier_tree m.id; given = option_map name_tree m.name; content = content_tree m.kind; refusal = m.refusal }
