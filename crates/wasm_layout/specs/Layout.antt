-- The binary of a module (WebAssembly 3.0, chapter 5; appendix, Name Section; branch hinting).
use Rattle.std.specs.Prelude.{ℕ, Bool, true, false, List, [], ◌∷◌, ◌++◌, map, length, replicate, slice_get, Option, Some, None, option_to_list}
use Rattle.std.specs.List.{flat_map, sum_by}
use Rattle.std.specs.Option.{option_flatten}
use Rattle.wasm_encoder_base.specs.Bytes.{counted, sized, optional}
use Rattle.wasm_encoder_base.specs.Instr.{expr_bytes}
use Rattle.wasm_encoder_base.specs.Leb.{uleb}
use Rattle.wasm_encoder_base.specs.Lists.{listed}
use Rattle.wasm_encoder_code.specs.Body.{Body, body_bytes, place_of}
use Rattle.wasm_encoder_items.specs.EntityTypes.{EntityType, FunctionEntity, limits_bytes, tag_bytes}
use Rattle.wasm_encoder_items.specs.Imports as items
use Rattle.wasm_encoder_items.specs.Imports.{One, OfModule, OfType, imports_bytes, export_bytes}
use Rattle.wasm_encoder_items.specs.Segments.{table_item, global_item, element_bytes, data_bytes}
use Rattle.wasm_encoder_items.specs.TypeEntries.{entry_bytes}
use Rattle.wasm_encoder_sections.specs.Codes.{function_item}
use Rattle.wasm_encoder_custom.specs.Custom.{Custom, custom_body}
use Rattle.wasm_encoder_custom.specs.Names as subsections
use Rattle.wasm_encoder_custom.specs.Names.{NameSubsection, name_subsection_bytes, name_section}
use Rattle.wasm_encoder_custom.specs.BranchHints as offsets
use Rattle.wasm_encoder_custom.specs.BranchHints.{function_hints_bytes, hints_section}
use Rattle.wasm_encoder_custom.specs.declared.branch_hints.BranchHint.{BranchHint}
use Rattle.wasm_encoder.specs.Module.{header, numbered}
use Rattle.wasm_layout.specs.Section.{SectionKind, Types, Imports, Functions, Tables, Memories, Tags, Globals, Exports, Starts, Elements, DataCount, Hints, Codes, Datas, Names, section_number, order}
use Rattle.wasm_layout.specs.AbstractModule.{Function, Naming, InnerNaming, NameMaps, Hint, FunctionHints, AbstractModule}
use Rattle.wasm_layout.specs.Present.{has_any, MapKind, OfItems, Inner, map_order, is_present}
use Rattle.wasm_layout.specs.Present.MapKind.{OfModule as OfTheModule}

-- THE FUNCTION WITH A NUMBER, where it isn't imported: those that are have the first numbers (2.5.1)
abbrev pub is_function : EntityType → ℕ
is_function (FunctionEntity index) = 1
is_function type = 0

abbrev pub functions_in : items.Imports → ℕ
functions_in (One i) = is_function i.type
functions_in (OfModule from items) = sum_by (λ i. is_function i.type) items
functions_in (OfType from type names) = sum_by (λ name. is_function type) names

abbrev pub imported_count : {A : Type 0} → AbstractModule A → ℕ
imported_count m = sum_by functions_in m.imports

abbrev pub function_at : {A : Type 0} → AbstractModule A → ℕ → Option Function
function_at m n = option_flatten (slice_get (replicate (imported_count m) None ++ map Some m.functions) n)

-- BRANCH HINTS: instructions by how far from the start of the body they begin
abbrev pub placed : Body → Hint → BranchHint
placed body h = record { branch_func_offset = place_of body h.index; branch_hint_value = h.value }

abbrev pub placed_in : Option Function → List Hint → List BranchHint
placed_in None hints = []
placed_in (Some f) hints = map (placed f.body) hints

abbrev pub placed_hints : (ℕ → Option Function) → FunctionHints → offsets.FunctionHints
placed_hints at g = record { function_index = g.function; hints = placed_in (at g.function) g.hints }

-- NAMES: the subsection of a name map that isn't empty
abbrev pub if_there : {A : Type 0} → Bool → A → List A
if_there true x = x ∷ []
if_there false x = []

abbrev pub naming : Naming (List ℕ) → subsections.Naming
naming n = record { index = n.index; name = n.name }

abbrev pub inner_naming : InnerNaming (List ℕ) → subsections.InnerNaming
inner_naming n = record { index = n.index; names = map naming n.names }

abbrev pub subsection_of : NameMaps (List ℕ) → MapKind → List NameSubsection
subsection_of names OfTheModule = map subsections.ModuleName (option_to_list names.module_name)
subsection_of names (OfItems space) = if_there (has_any (names.items space)) (subsections.Names space (map naming (names.items space)))
subsection_of names (Inner space) = if_there (has_any (names.inner space)) (subsections.InnerNames space (map inner_naming (names.inner space)))

abbrev pub name_bytes : NameMaps (List ℕ) → List ℕ
name_bytes names = flat_map name_subsection_bytes (flat_map (subsection_of names) map_order)

-- SECTIONS: what each holds, behind its number and its size (5.5.4 to 5.5.16)
abbrev pub contents_of : AbstractModule (List ℕ) → SectionKind → List ℕ
contents_of m Types = counted entry_bytes m.types
contents_of m Imports = counted imports_bytes m.imports
contents_of m Functions = counted uleb (map (λ f. f.type_index) m.functions)
contents_of m Tables = counted (table_item expr_bytes) m.tables
contents_of m Memories = counted limits_bytes m.memories
contents_of m Tags = counted tag_bytes m.tags
contents_of m Globals = counted (global_item expr_bytes) m.globals
contents_of m Exports = counted export_bytes m.exports
contents_of m Starts = optional uleb m.start
contents_of m Elements = counted (element_bytes expr_bytes) m.elements
contents_of m DataCount = uleb (length m.datas)
contents_of m Hints = custom_body (hints_section (listed function_hints_bytes (map (placed_hints (function_at m)) m.hints)))
contents_of m Codes = counted function_item (map (λ f. body_bytes f.body) m.functions)
contents_of m Datas = counted (data_bytes expr_bytes) m.datas
contents_of m Names = custom_body (name_section (name_bytes m.names))

pub record Section : Type 0 where
  pub kind : SectionKind
  pub contents : List ℕ

abbrev pub section : AbstractModule (List ℕ) → SectionKind → Section
section m k = record { kind = k; contents = contents_of m k }

-- those that are there, in their order (5.5.2)
abbrev pub sections : AbstractModule (List ℕ) → List Section
sections m = flat_map (λ k. if_there (is_present m k) (section m k)) order

-- THE MODULE: the header, then each section behind the custom ones of its gap, then those of the last gap (5.5.17)
pub data Piece : Type 0 where
  Known : Section → Piece
  Free : Custom → Piece

abbrev pub weave : List Section → List (List Custom) → List Piece
weave (s ∷ sections) (gap ∷ gaps) = map Free gap ++ (Known s ∷ weave sections gaps)
weave [] (gap ∷ gaps) = map Free gap
weave sections [] = map Known sections

abbrev pub number : Piece → ℕ
number (Known s) = section_number s.kind
number (Free c) = 0

abbrev pub contents : Piece → List ℕ
contents (Known s) = s.contents
contents (Free c) = custom_body c

abbrev pub piece_bytes : Piece → List ℕ
piece_bytes p = numbered (number p) (sized (contents p))

abbrev pub pieces : AbstractModule (List ℕ) → List Piece
pieces m = weave (sections m) m.customs

abbrev pub layout : AbstractModule (List ℕ) → List ℕ
layout m = header ++ flat_map piece_bytes (pieces m)
