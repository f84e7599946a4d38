-- What contracts see of which kinds of section there may be.
use Rattle.std.specs.Prelude.{ℕ, ◌≡◌, Bool, true, false, List, Option}
use Rattle.wast_grammar.specs.Tokens.{Name}
use Rattle.wast_parser.specs.Identifiers.{Named}
use Rattle.wast_module_fields.specs.declared.field.ModuleField.{ModuleField}
use Rattle.wast_module_fields.specs.ModuleFieldViews.{field_tree}
use Rattle.wasm_layout.specs.Present.{is_present}
use Rattle.wast_binary.specs.Gives.{gives}
use Rattle.wast_binary.specs.Parts.{module_of}
use Rattle.wast_binary.specs.Sources.{fields_in}
use Rattle.wast_binary.specs.Views.{kind_view}
use Rattle.wast_binary.specs.declared.present.Present.{Present}
use Rattle.wast_binary.specs.declared.stop.Kind.{Kind}
use Rattle.wast_binary.specs.declared.stop.Kind.TheVariants as kinds

-- whether what is noted has a section of a kind in it
abbrev pub has : Present → Kind → Bool
has p kinds.Types = p.types
has p kinds.Imports = p.imports
has p kinds.Functions = p.functions
has p kinds.Tables = p.tables
has p kinds.Memories = p.memories
has p kinds.Tags = p.tags
has p kinds.Globals = p.globals
has p kinds.Exports = p.exports
has p kinds.Starts = p.starts
has p kinds.Elements = p.elements
has p kinds.DataCount = p.functions
has p kinds.Hints = p.functions
has p kinds.Codes = p.functions
has p kinds.Datas = p.datas
has p kinds.Names = true

-- one more field is noted: a kind that isn't had then wasn't before, and the field has nothing in its section
abbrev pub Notes : ModuleField → Present → Present → Type 0
Notes f old new = (kind : Kind) → has new kind ≡ false → (has old kind ≡ false) × (gives (kind_view kind) (field_tree f) ≡ false)

-- a section that it doesn't have is absent from the module of these fields, whatever it is called
abbrev pub Covers : Present → List ModuleField → Type 0
Covers p fields = (given : Option (List ℕ)) (id : Option (Named Name ℕ)) (kind : Kind) → has p kind ≡ false → is_present (module_of given id (fields_in fields)) (kind_view kind) ≡ false
