-- Parts of custom sections, and sections, in bytes.
use Rattle.std.specs.Prelude.{ℕ, ◌≡◌, ◌+◌, List, [], ◌∷◌, ◌++◌}
use Rattle.std.specs.List.{flat_map}
use Rattle.wasm_encoder_base.specs.Lists.{Listed}
use Rattle.wasm_encoder_custom.specs.Custom.{Custom, subsection}
use Rattle.wasm_encoder_custom.specs.Producers.{Field}
use Rattle.wasm_layout.specs.Present.{has_any}
use Rattle.wasm_layout.specs.Layout.{Free, if_there, piece_bytes}
use Rattle.wast_customs.specs.CustomTree.{CustomPlace, Producer, ProducerKind, Subsection}
use Rattle.wast_customs.specs.Dylink.{subsection_id, payload}
use Rattle.wast_module_fields.specs.FieldTree.{Field as ModuleField}
use Rattle.wast_meant.specs.CustomsMeant.{at_place, customs_in, of_kind, producers_field}

-- the custom sections that fields have at a place, in the order of the fields
abbrev pub sections_at : {N P : Type 0} → List (ModuleField N P) → CustomPlace → List Custom
sections_at fs place = at_place (flat_map customs_in fs) place

-- one list behind another
abbrev pub joined : Listed → Listed → Listed
joined xs ys = record { count = xs.count + ys.count; bytes = xs.bytes ++ ys.bytes }

-- the field of the producers of a kind, if there are any
abbrev pub field_of_kind : List Producer → ProducerKind → List Field
field_of_kind ps kind = if_there (has_any (of_kind ps kind)) (producers_field ps kind)

-- a subsection of `dylink.0`: its number, its size, what it says
abbrev pub subsection_bytes : Subsection → List ℕ
subsection_bytes s = subsection (subsection_id s) (payload s)

-- a custom section behind its number
abbrev pub section_bytes : Custom → List ℕ
section_bytes c = piece_bytes (Free c)

-- bytes that begin with the number of a custom section, if there are any
abbrev pub AreCustom : List ℕ → Type 0
AreCustom [] = Unit {0}
AreCustom (b ∷ bytes) = b ≡ 0
