-- The statements of the crate's law functions.
use Rattle.std.specs.Prelude.{ℕ, ◌≡◌, ◌+◌, List, ◌∷◌, ◌++◌, map, length, drop, slice_get, Some}
use Rattle.std.specs.List.{flat_map}
use Rattle.wasm_encoder_base.specs.Bytes.{sized}
use Rattle.wasm_encoder_base.specs.Instr.{Instr, expr_bytes, instr_bytes}
use Rattle.wasm_encoder_base.specs.Leb.{uleb}
use Rattle.wasm_encoder_base.specs.Lists.{listed}
use Rattle.wasm_encoder_code.specs.Body.{body_bytes, place_of}
use Rattle.wasm_encoder_sections.specs.Sections.{type_section, import_section, function_section, table_section, memory_section, tag_section, global_section, export_section, start_section, element_section, data_count_section, code_section, data_section}
use Rattle.wasm_encoder_custom.specs.Custom.{custom_bytes}
use Rattle.wasm_encoder_custom.specs.Names.{name_section}
use Rattle.wasm_encoder_custom.specs.BranchHints.{function_hints_bytes, hints_section}
use Rattle.wasm_layout.specs.Section.{Types, Imports, Functions, Tables, Memories, Tags, Globals, Exports, Starts, Elements, DataCount, Hints, Codes, Datas, Names}
use Rattle.wasm_layout.specs.AbstractModule.{AbstractModule, Function, Hint, FunctionHints}
use Rattle.wasm_layout.specs.Layout.{Known, contents_of, section, piece_bytes, imported_count, function_at, placed, placed_hints, name_bytes}
use Rattle.wasm_layout.specs.Lays.{Lays, Reads}

-- Bytes are read as one module at most.
abbrev pub OneReading : Type 0
OneReading = (b : List ℕ) (m n : AbstractModule (List ℕ)) → Reads b m → Reads b n → m ≡ n

-- A module has one binary at most.
abbrev pub OneBinary : Type 0
OneBinary = (b c : List ℕ) (m : AbstractModule (List ℕ)) → Lays b m → Lays c m → b ≡ c

-- the bodies of functions as the section of codes lists them
abbrev pub bodies_bytes : List Function → List ℕ
bodies_bytes fs = flat_map (λ f. sized (body_bytes f.body)) fs

-- A hint of a function, in the binary of a module.
pub record HintStands (b : List ℕ) (m : AbstractModule (List ℕ)) (g : FunctionHints) (h : Hint) : Type 0 where
  -- the function is one with a body, behind these: its number is as many, and those that are imported
  pub function : Function
  pub earlier : List Function
  pub later : List Function
  pub functions : m.functions ≡ earlier ++ (function ∷ later)
  pub is_numbered : imported_count m + length earlier ≡ g.function
  -- the instruction of the hint
  pub instruction : Instr
  pub is_instruction : slice_get function.body.instructions h.index ≡ Some instruction
  -- what stands before the section of hints, between it and that of codes, and behind that
  pub before : List ℕ
  pub between : List ℕ
  pub after : List ℕ
  pub sections : b ≡ before ++ (piece_bytes (Known (section m Hints)) ++ (between ++ (piece_bytes (Known (section m Codes)) ++ after)))
  -- the one lists the function's hints by the places of their instructions,
  pub lists : placed_hints (function_at m) g ≡ record { function_index = g.function; hints = map (placed function.body) g.hints }
  -- the other lists its body behind those before it,
  pub bodies : contents_of m Codes ≡ uleb (length m.functions) ++ (bodies_bytes earlier ++ (sized (body_bytes function.body) ++ bodies_bytes later))
  -- and so far from the start of the body the instruction begins
  pub rest : List ℕ
  pub begins : drop (place_of function.body h.index) (body_bytes function.body) ≡ instr_bytes instruction ++ rest

abbrev pub HintPlaces : Type 0
HintPlaces = (b : List ℕ) (m : AbstractModule (List ℕ)) (j k : ℕ) (g : FunctionHints) (h : Hint) →
    Lays b m → slice_get m.hints j ≡ Some g → slice_get g.hints k ≡ Some h → HintStands b m g h

-- Behind its number each section is what the crates say that build it.
pub record IsBuilt (m : AbstractModule (List ℕ)) : Type 0 where
  pub types : sized (contents_of m Types) ≡ type_section m.types
  pub imports : sized (contents_of m Imports) ≡ import_section m.imports
  pub functions : sized (contents_of m Functions) ≡ function_section (map (λ f. f.type_index) m.functions)
  pub tables : sized (contents_of m Tables) ≡ table_section expr_bytes m.tables
  pub memories : sized (contents_of m Memories) ≡ memory_section m.memories
  pub tags : sized (contents_of m Tags) ≡ tag_section m.tags
  pub globals : sized (contents_of m Globals) ≡ global_section expr_bytes m.globals
  pub exports : sized (contents_of m Exports) ≡ export_section m.exports
  pub start : (function : ℕ) → m.start ≡ Some function → sized (contents_of m Starts) ≡ start_section function
  pub elements : sized (contents_of m Elements) ≡ element_section expr_bytes m.elements
  pub data_count : sized (contents_of m DataCount) ≡ data_count_section (length m.datas)
  pub hints : sized (contents_of m Hints) ≡ custom_bytes (hints_section (listed function_hints_bytes (map (placed_hints (function_at m)) m.hints)))
  pub codes : sized (contents_of m Codes) ≡ code_section (map (λ f. body_bytes f.body) m.functions)
  pub datas : sized (contents_of m Datas) ≡ data_section expr_bytes m.datas
  pub names : sized (contents_of m Names) ≡ custom_bytes (name_section (name_bytes m.names))

abbrev pub AsBuilt : Type 0
AsBuilt = (m : AbstractModule (List ℕ)) → IsBuilt m
