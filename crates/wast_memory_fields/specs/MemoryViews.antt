-- What the grammar sees of the code's memories and data segments.
use Rattle.std.specs.Prelude.{ℕ, map, option_map}
use Rattle.wast_field_syntax.specs.Tokens.{Name}
use Rattle.wast_field_syntax.specs.Identifiers.{identifier_tree, index_tree}
use Rattle.wast_value_types.specs.ValueViews.{memory_tree}
use Rattle.wast_field_syntax.specs.SignatureViews.{name_tree}
use Rattle.wast_field_syntax.specs.ExpressionViews.{expression_tree}
use Rattle.wast_exports.specs.ExportViews.{inline_export_tree}
use Rattle.wast_field_syntax.specs.ImportTree.{OfMemory}
use Rattle.wast_field_syntax.specs.DataViews.{value_tree}
use Rattle.wast_field_syntax.specs.FieldTree as spec
use Rattle.wast_memory_fields.specs.declared.memory.Memory.{Memory}
use Rattle.wast_memory_fields.specs.declared.memory.MemoryKind.{MemoryKind}
use Rattle.wast_memory_fields.specs.declared.memory.MemoryKind.TheVariants as memories
use Rattle.wast_memory_fields.specs.declared.data.Data.{Data}
use Rattle.wast_memory_fields.specs.declared.data.DataKind.{DataKind}
use Rattle.wast_memory_fields.specs.declared.data.DataKind.TheVariants as modes
use Rattle.wast_field_syntax.specs.InlineViews.{imported}

-- MEMORIES
abbrev pub defined_memory : MemoryKind → spec.Defined Name ℕ
defined_memory (memories.Import i ty) = imported i (OfMemory (memory_tree ty))
defined_memory (memories.Normal ty) = spec.Memory (memory_tree ty)
defined_memory (memories.Inline is_wide values page) = spec.MemoryOf is_wide page (map value_tree values.items)

abbrev pub memory_definition : Memory → spec.Definition Name ℕ
memory_definition m = record { place = m.span; id = option_map identifier_tree m.id; given = option_map name_tree m.name; exports = inline_export_tree m.exports; defined = defined_memory m.kind }

-- DATA SEGMENTS
abbrev pub mode_tree : DataKind → spec.DataMode Name ℕ
mode_tree modes.Passive = spec.PassiveData
mode_tree (modes.Active memory offset) = spec.ActiveData (option_map index_tree memory) (expression_tree offset)

abbrev pub data_tree : Data → spec.Data Name ℕ
data_tree d = record { place = d.span; id = option_map identifier_tree d.id; given = option_map name_tree d.name; mode = mode_tree d.kind; values = map value_tree d.«data».items }
