-- The name maps of a module, with names as bytes.
use Rattle.std.specs.Prelude.{ℕ, if◌then◌else◌, List, Option, Some, None}
use Rattle.wast_grammar.specs.Tokens.{Name}
use Rattle.wast_grammar.specs.Spelling.{same_name}
use Rattle.wast_parser.specs.Identifiers.{Named}
use Rattle.wast_module_fields.specs.FieldTree.{Field}
use Rattle.wasm_layout.specs.AbstractModule.{NameMaps}
use Rattle.wasm_layout.specs.Layout.{name_bytes}
use Rattle.wasm_layout.specs.Present.{has_names}
use Rattle.wast_meant.specs.Binary.{bytes_of, maps_with}
use Rattle.wast_meaning.specs.Made.{is_made}
use Rattle.wast_meant.specs.NamesMeant.{given_name, names_of}

-- those that `in_bytes` has of a module of these fields, which has this `@name` and this identifier
abbrev pub maps_in : Option (List ℕ) → Option (Named Name ℕ) → List (Field Name ℕ) → NameMaps (List ℕ)
maps_in given id fs = maps_with bytes_of (names_of is_made same_name fs (given_name is_made given id))

-- the data of the section, which is absent where all maps are empty
abbrev pub section_data : NameMaps (List ℕ) → Option (List ℕ)
section_data maps = if has_names maps then Some (name_bytes maps) else None
