-- Which sections a module has: that of an empty list is absent (WebAssembly 3.0, 5.5.2).
use Rattle.std.specs.Prelude.{ℕ, Bool, true, false, not, ◌&&◌, is_some, List, [], ◌∷◌, codes}
use Rattle.std.specs.List.{list_any}
use Rattle.wasm_encoder_base.specs.Table.{same_text}
use Rattle.wasm_encoder_custom.specs.Custom.{Custom}
use Rattle.wasm_encoder_custom.specs.Names.{Space, Functions as FunctionNames, Types as TypeNames, Tables as TableNames, Memories as MemoryNames, Globals as GlobalNames, Elements as ElementNames, DataSegments as DataNames, Tags as TagNames, InnerSpace, Locals as LocalNames, Labels as LabelNames, Fields as FieldNames, Parameters as ParameterNames, TagParameters as TagParameterNames}
use Rattle.wasm_layout.specs.Section.{SectionKind, Types, Imports, Functions, Tables, Memories, Tags, Globals, Exports, Starts, Elements, DataCount, Hints, Codes, Datas, Names}
use Rattle.wasm_layout.specs.AbstractModule.{AbstractModule, Function, NameMaps}

abbrev pub has_any : {A : Type 0} → List A → Bool
has_any [] = false
has_any (x ∷ xs) = true

-- memory.init, data.drop, array.new_data and array.init_data need the count of data segments (5.5.15)
abbrev pub data_opcodes : List (List ℕ)
data_opcodes = (0xFC ∷ 8 ∷ []) ∷ (0xFC ∷ 9 ∷ []) ∷ (0xFB ∷ 9 ∷ []) ∷ (0xFB ∷ 18 ∷ []) ∷ []

abbrev pub says_data : Function → Bool
says_data f = list_any (λ i. list_any (same_text i.opcode) data_opcodes) f.body.instructions

-- the name maps, in the order of their numbers (appendix, Name Section)
pub data MapKind : Type 0 where
  OfModule : MapKind
  OfItems : Space → MapKind
  Inner : InnerSpace → MapKind

abbrev pub map_order : List MapKind
map_order =
    OfModule ∷ OfItems FunctionNames ∷ Inner LocalNames ∷ Inner LabelNames ∷ OfItems TypeNames ∷ OfItems TableNames ∷ OfItems MemoryNames
    ∷ OfItems GlobalNames ∷ OfItems ElementNames ∷ OfItems DataNames ∷ Inner FieldNames ∷ OfItems TagNames ∷ Inner ParameterNames
    ∷ Inner TagParameterNames ∷ []

abbrev pub has_map : {A : Type 0} → NameMaps A → MapKind → Bool
has_map names OfModule = is_some names.module_name
has_map names (OfItems space) = has_any (names.items space)
has_map names (Inner space) = has_any (names.inner space)

abbrev pub has_names : {A : Type 0} → NameMaps A → Bool
has_names names = list_any (has_map names) map_order

-- some custom section has this name
abbrev pub is_called : List ℕ → List (List Custom) → Bool
is_called name gaps = list_any (λ gap. list_any (λ c. same_text name c.name) gap) gaps

-- a custom section called `name` keeps that of the name maps away
abbrev pub is_present : {A : Type 0} → AbstractModule A → SectionKind → Bool
is_present m Types = has_any m.types
is_present m Imports = has_any m.imports
is_present m Functions = has_any m.functions
is_present m Tables = has_any m.tables
is_present m Memories = has_any m.memories
is_present m Tags = has_any m.tags
is_present m Globals = has_any m.globals
is_present m Exports = has_any m.exports
is_present m Starts = is_some m.start
is_present m Elements = has_any m.elements
is_present m DataCount = list_any says_data m.functions
is_present m Hints = has_any m.hints
is_present m Codes = has_any m.functions
is_present m Datas = has_any m.datas
is_present m Names = has_names m.names && not (is_called (codes "name") m.customs)
