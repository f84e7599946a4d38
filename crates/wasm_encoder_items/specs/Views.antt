-- What the code's types stand for, and which counts and lengths of them have to fit.
use Rattle.std.specs.Prelude.{◌<◌, ◌^◌, None, length, map, All}
use Rattle.wasm_encoder_base.specs.Views.{ref_view, val_view}
use Rattle.wasm_encoder_items.specs.EntityTypes as types
use Rattle.wasm_encoder_items.specs.Imports as imports
use Rattle.wasm_encoder_items.specs.declared.limits.Limits.{Limits}
use Rattle.wasm_encoder_items.specs.declared.types.TableType.{TableType}
use Rattle.wasm_encoder_items.specs.declared.types.MemoryType.{MemoryType}
use Rattle.wasm_encoder_items.specs.declared.types.GlobalType.{GlobalType}
use Rattle.wasm_encoder_items.specs.declared.types.EntityType.{EntityType}
use Rattle.wasm_encoder_items.specs.declared.types.EntityType.TheVariants.{Function, Table, Memory, Global, Tag}
use Rattle.wasm_encoder_items.specs.declared.imports.Import.{Import}
use Rattle.wasm_encoder_items.specs.declared.imports.ImportCompact.{ImportCompact}
use Rattle.wasm_encoder_items.specs.declared.imports.Imports.{Imports}
use Rattle.wasm_encoder_items.specs.declared.imports.Imports.TheVariants.{Single, Compact1, Compact2}
use Rattle.wasm_encoder_items.specs.declared.exports.ExportKind.{ExportKind}
use Rattle.wasm_encoder_items.specs.declared.exports.ExportKind.TheVariants as kinds
use Rattle.wasm_encoder_items.specs.declared.exports.Export.{Export}

abbrev pub limits_view : Limits → types.Limits
limits_view l = record { minimum = l.minimum; maximum = l.maximum; shared = l.shared; is_64 = l.is_64; page_size_log2 = l.page_size_log2 }

abbrev pub table_view : TableType → types.TableType
table_view t = record {
  element_type = ref_view t.element_type;
  limits = record { minimum = t.minimum; maximum = t.maximum; shared = t.shared; is_64 = t.table64; page_size_log2 = None };
}

abbrev pub memory_view : MemoryType → types.Limits
memory_view m = record { minimum = m.minimum; maximum = m.maximum; shared = m.shared; is_64 = m.memory64; page_size_log2 = m.page_size_log2 }

abbrev pub global_view : GlobalType → types.GlobalType
global_view g = record { val_type = val_view g.val_type; mutable = g.mutable; shared = g.shared }

abbrev pub entity_view : EntityType → types.EntityType
entity_view (Function index) = types.FunctionEntity index
entity_view (Table t) = types.TableEntity (table_view t)
entity_view (Memory m) = types.MemoryEntity (memory_view m)
entity_view (Global g) = types.GlobalEntity (global_view g)
entity_view (Tag t) = types.TagEntity t.func_type_idx

abbrev pub import_view : Import → imports.Import
import_view i = record { module_name = i.module.now; name = i.name.now; type = entity_view i.ty }

abbrev pub named_view : ImportCompact → imports.Named
named_view i = record { name = i.name.now; type = entity_view i.ty }

abbrev pub imports_view : Imports → imports.Imports
imports_view (Single i) = imports.One (import_view i)
imports_view (Compact1 m items) = imports.OfModule m.now (map named_view items)
imports_view (Compact2 m ty names) = imports.OfType m.now (entity_view ty) (map (λ n. n.now) names)

abbrev pub export_kind_view : ExportKind → imports.ExportKind
export_kind_view kinds.Func = imports.FuncExport
export_kind_view kinds.Table = imports.TableExport
export_kind_view kinds.Memory = imports.MemoryExport
export_kind_view kinds.Global = imports.GlobalExport
export_kind_view kinds.Tag = imports.TagExport

abbrev pub export_view : Export → imports.Export
export_view e = record { name = e.name.now; kind = export_kind_view e.kind; index = e.index }

-- counts and lengths are numbers of 32 bits
abbrev pub ImportFits : Import → Type 0
ImportFits i = (length i.module.now < 2 ^ 32) × (length i.name.now < 2 ^ 32)

abbrev pub NamedFits : ImportCompact → Type 0
NamedFits i = length i.name.now < 2 ^ 32

abbrev pub ImportsFit : Imports → Type 0
ImportsFit (Single i) = ImportFits i
ImportsFit (Compact1 m items) = (length m.now < 2 ^ 32) × (length items < 2 ^ 32) × All NamedFits items
ImportsFit (Compact2 m ty names) = (length m.now < 2 ^ 32) × (length names < 2 ^ 32) × All (λ n. length n.now < 2 ^ 32) names
