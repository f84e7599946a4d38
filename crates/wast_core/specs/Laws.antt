-- The laws that the crate's law functions prove.
use Rattle.std.specs.Prelude.{◌≡◌, ℕ, List}
use Rattle.wast_grammar.specs.Tokens.{Name}
use Rattle.wast_parser.specs.Significant.{TextToken}
use Rattle.wast_module_fields.specs.FieldTree.{Module}
use Rattle.wast_core.specs.ModuleSyntax.{module_form, wat}

-- What spells a module spells no other.
abbrev pub OneModule : Type 0
OneModule = (m n : Module Name ℕ) (ts : List TextToken) → module_form.spells m ts → module_form.spells n ts → m ≡ n

-- The same of a whole text: a module, or the fields of one.
abbrev pub OneText : Type 0
OneText = (m n : Module Name ℕ) (ts : List TextToken) → wat.spells m ts → wat.spells n ts → m ≡ n
