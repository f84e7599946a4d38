-- What contracts see of stops.
use Rattle.wast_customs.specs.CustomViews.{place_tree}
use Rattle.wasm_layout.specs.Section as sections
use Rattle.wast_meant.specs.CustomsMeant as spec
use Rattle.wast_binary.specs.declared.stop.Kind.{Kind}
use Rattle.wast_binary.specs.declared.stop.Kind.TheVariants as kinds
use Rattle.wast_binary.specs.declared.stop.Stop.{Stop}
use Rattle.wast_binary.specs.declared.stop.Stop.TheVariants as stops

abbrev pub kind_view : Kind → sections.SectionKind
kind_view kinds.Types = sections.Types
kind_view kinds.Imports = sections.Imports
kind_view kinds.Functions = sections.Functions
kind_view kinds.Tables = sections.Tables
kind_view kinds.Memories = sections.Memories
kind_view kinds.Tags = sections.Tags
kind_view kinds.Globals = sections.Globals
kind_view kinds.Exports = sections.Exports
kind_view kinds.Starts = sections.Starts
kind_view kinds.Elements = sections.Elements
kind_view kinds.DataCount = sections.DataCount
kind_view kinds.Hints = sections.Hints
kind_view kinds.Codes = sections.Codes
kind_view kinds.Datas = sections.Datas
kind_view kinds.Names = sections.Names

abbrev pub stop_view : Stop → spec.Stop
stop_view (stops.At place) = spec.At (place_tree place)
stop_view (stops.Of kind) = spec.Of (kind_view kind)
