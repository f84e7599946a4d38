-- What follows the number of each section (WebAssembly 3.0, 5.5). E is the type of constant expressions.
use Rattle.std.specs.Prelude.{ℕ, List}
use Rattle.wasm_encoder_base.specs.Bytes.{sized}
use Rattle.wasm_encoder_base.specs.Leb.{uleb}
use Rattle.wasm_encoder_base.specs.Lists.{section_bytes}
use Rattle.wasm_encoder_items.specs.EntityTypes.{Limits, limits_bytes, tag_bytes}
use Rattle.wasm_encoder_items.specs.Imports.{Imports, imports_bytes, Export, export_bytes}
use Rattle.wasm_encoder_items.specs.Segments.{Table, table_item, Global, global_item, ElementSegment, element_bytes, DataSegment, data_bytes}
use Rattle.wasm_encoder_items.specs.TypeEntries.{TypeEntry, entry_bytes}
use Rattle.wasm_encoder_sections.specs.Codes.{function_item}

abbrev pub type_section : List TypeEntry → List ℕ
type_section = section_bytes entry_bytes

abbrev pub import_section : List Imports → List ℕ
import_section = section_bytes imports_bytes

-- the types of functions, by their indices
abbrev pub function_section : List ℕ → List ℕ
function_section = section_bytes uleb

abbrev pub table_section : {E : Type 0} → (E → List ℕ) → List (Table E) → List ℕ
table_section spell = section_bytes (table_item spell)

abbrev pub memory_section : List Limits → List ℕ
memory_section = section_bytes limits_bytes

-- the types of tags, by their indices
abbrev pub tag_section : List ℕ → List ℕ
tag_section = section_bytes tag_bytes

abbrev pub global_section : {E : Type 0} → (E → List ℕ) → List (Global E) → List ℕ
global_section spell = section_bytes (global_item spell)

abbrev pub export_section : List Export → List ℕ
export_section = section_bytes export_bytes

abbrev pub start_section : (function : ℕ) → List ℕ
start_section function = sized (uleb function)

abbrev pub element_section : {E : Type 0} → (E → List ℕ) → List (ElementSegment E) → List ℕ
element_section spell = section_bytes (element_bytes spell)

abbrev pub data_count_section : (count : ℕ) → List ℕ
data_count_section count = sized (uleb count)

-- bodies by their bytes
abbrev pub code_section : List (List ℕ) → List ℕ
code_section = section_bytes function_item

abbrev pub data_section : {E : Type 0} → (E → List ℕ) → List (DataSegment E) → List ℕ
data_section spell = section_bytes (data_bytes spell)
