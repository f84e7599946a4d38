-- What contracts see of the code's index spaces.
use Rattle.wasm_encoder_base.specs.Table as table
use Rattle.wast_meaning.specs.declared.space.Space.{Space}
use Rattle.wast_meaning.specs.declared.space.Space.TheVariants as spaces

abbrev pub space_view : Space → table.Space
space_view spaces.Labels = table.Labels
space_view spaces.Locals = table.Locals
space_view spaces.Functions = table.Functions
space_view spaces.Types = table.Types
space_view spaces.Tables = table.Tables
space_view spaces.Memories = table.Memories
space_view spaces.Globals = table.Globals
space_view spaces.Tags = table.Tags
space_view spaces.Datas = table.Datas
space_view spaces.Elems = table.Elems
space_view spaces.Fields = table.Fields
