-- What contracts see of index spaces.
use Rattle.std.specs.Prelude.{List, map}
use Rattle.wasm_encoder_base.specs.Table as table
use Rattle.wast_grammar.specs.Tokens.{Name}
use Rattle.wast_exports.specs.ExportViews.{kind_view}
use Rattle.wast_exports.specs.declared.export.ExportKind.{ExportKind}
use Rattle.wast_names.specs.Space as names
use Rattle.wast_names.specs.Views.{space}
use Rattle.wast_meaning.specs.Written.{space_of_kind}
use Rattle.wast_spaces.specs.declared.spaces.Spaces.{Spaces}
use Rattle.wast_spaces.specs.declared.spaces.Kind.{Kind}
use Rattle.wast_spaces.specs.declared.spaces.Kind.TheVariants as kinds

-- which index space a kind of definition is
abbrev pub space_of : ExportKind → table.Space
space_of k = space_of_kind (kind_view k)

-- which index space a kind of item is
abbrev pub kind_space : Kind → table.Space
kind_space kinds.Function = table.Functions
kind_space kinds.Table = table.Tables
kind_space kinds.Memory = table.Memories
kind_space kinds.Global = table.Globals
kind_space kinds.Tag = table.Tags
kind_space kinds.Data = table.Datas
kind_space kinds.Elem = table.Elems

-- each index space of the module; labels, locals and fields are none of it, and share one that no item joins
abbrev pub spaces_of : Spaces → table.Space → names.Space Name
spaces_of s table.Functions = space s.functions
spaces_of s table.Types = space s.types
spaces_of s table.Tables = space s.tables
spaces_of s table.Memories = space s.memories
spaces_of s table.Globals = space s.globals
spaces_of s table.Tags = space s.tags
spaces_of s table.Datas = space s.datas
spaces_of s table.Elems = space s.elems
spaces_of s t = space s.others

-- the index spaces of the fields of types, in the order of the types
abbrev pub fields_of_types : Spaces → List (names.Space Name)
fields_of_types s = map space s.fields.items
