-- What stands at each stop of a module of resolved fields, and when its numbers are in the ranges of their binary fields.
use Rattle.std.specs.Prelude.{ℕ, List, Option}
use Rattle.std.specs.List.{flat_map, AllByRecursion}
use Rattle.wast_grammar.specs.Tokens.{Name}
use Rattle.wast_grammar.specs.Spelling.{same_name}
use Rattle.wast_parser.specs.Identifiers.{Named}
use Rattle.wast_module_fields.specs.FieldTree.{Field}
use Rattle.wasm_layout.specs.AbstractModule.{AbstractModule}
use Rattle.wasm_layout.specs.IsModule.{IsU32, IfThere, IsEntry, IsImport, IsTable, IsGlobal, IsExport, IsElement, IsData, IsLimits}
use Rattle.wasm_layout.specs.Layout.{Piece, section}
use Rattle.wasm_layout.specs.Lays.{RunsFit}
use Rattle.wasm_layout.specs.Present.{is_present}
use Rattle.wasm_layout.specs.Section.{SectionKind, Types, Imports, Functions, Tables, Memories, Tags, Globals, Exports, Starts, Elements, DataCount, Hints, Codes, Datas, Names}
use Rattle.wast_meant.specs.CustomsMeant.{customs_in, at_place, Stop, At, Of}
use Rattle.wast_meant.specs.NamesMeant.{given_name}
use Rattle.wast_meant.specs.Meaning.{meant}
use Rattle.wast_meant.specs.Binary.{in_bytes}
use Rattle.wast_meaning.specs.Made.{is_made}
use Rattle.wast_meant_laws.specs.Stops.{stop_pieces}
use Rattle.wast_section_items.specs.Sound.{TypeSound, BodySound}

-- the module of resolved fields, of this `@name` and this identifier
abbrev pub module_of : Option (List ℕ) → Option (Named Name ℕ) → List (Field Name ℕ) → AbstractModule (List ℕ)
module_of given id fs = in_bytes (meant same_name is_made (given_name is_made given id) fs)

-- the pieces at a stop
abbrev pub pieces_of : List (Field Name ℕ) → AbstractModule (List ℕ) → Stop → List Piece
pieces_of fs m stop = stop_pieces (at_place (flat_map customs_in fs)) (is_present m) (section m) stop

-- the numbers of a section are in the ranges of their binary fields; those of name maps and hints are by what is known of the fields
abbrev pub KindSound : AbstractModule (List ℕ) → SectionKind → Type 0
KindSound m Types = AllByRecursion IsEntry m.types
KindSound m Imports = AllByRecursion IsImport m.imports
KindSound m Functions = AllByRecursion TypeSound m.functions
KindSound m Tables = AllByRecursion IsTable m.tables
KindSound m Memories = AllByRecursion IsLimits m.memories
KindSound m Tags = AllByRecursion IsU32 m.tags
KindSound m Globals = AllByRecursion IsGlobal m.globals
KindSound m Exports = AllByRecursion IsExport m.exports
KindSound m Starts = IfThere IsU32 m.start
KindSound m Elements = AllByRecursion IsElement m.elements
KindSound m Codes = AllByRecursion BodySound m.functions × AllByRecursion RunsFit m.functions
KindSound m Datas = AllByRecursion IsData m.datas
KindSound m DataCount = Unit {0}
KindSound m Hints = Unit {0}
KindSound m Names = Unit {0}

abbrev pub StopSound : AbstractModule (List ℕ) → Stop → Type 0
StopSound m (At place) = Unit {0}
StopSound m (Of kind) = KindSound m kind
