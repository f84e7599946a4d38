-- The items of a field as code has it.
use Rattle.std.proofs.Common.{ℕ, List}
use Rattle.wast_grammar.specs.Tokens.{Name}
use Rattle.wast_module_fields.specs.ModuleFieldViews.{field_tree}
use Rattle.wast_module_fields.specs.declared.field.ModuleField.{ModuleField}
use Rattle.wast_meaning.specs.Spaces.{Bound, items}

abbrev pub field_items : ModuleField → List (Bound Name ℕ)
field_items f = items (field_tree f)
