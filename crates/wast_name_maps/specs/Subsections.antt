-- The subsection of each name map, which is absent where the map is empty.
use Rattle.std.specs.Prelude.{ℕ, ◌<◌, ◌^◌, nat_eq, if◌then◌else◌, List, [], ◌∷◌, map, length, Option, Some, None, option_to_list}
use Rattle.std.specs.List.{flat_map}
use Rattle.wasm_encoder_base.specs.Bytes.{sized}
use Rattle.wasm_encoder_base.specs.Lists.{Listed, list_bytes}
use Rattle.wasm_encoder_custom.specs.Custom.{subsection}
use Rattle.wasm_encoder_custom.specs.Names.{ModuleName, name_subsection_bytes}
use Rattle.wasm_layout.specs.AbstractModule.{NameMaps}
use Rattle.wasm_layout.specs.IsModule.{IsMap, AreInner}
use Rattle.wasm_layout.specs.Present.{MapKind, OfItems, Inner}
use Rattle.wasm_layout.specs.Present.MapKind.{OfModule}

abbrev pub module_bytes : Option (List ℕ) → List ℕ
module_bytes name = flat_map name_subsection_bytes (map ModuleName (option_to_list name))

-- that of a list, by its number
abbrev pub subsection_if : ℕ → Listed → List ℕ
subsection_if number list = if nat_eq list.count 0 then [] else subsection number (list_bytes list)

-- the data of a section that has any
abbrev pub if_any : List ℕ → Option (List ℕ)
if_any [] = None
if_any (b ∷ bs) = Some (b ∷ bs)

-- the name of the module is short enough
abbrev pub ModuleFits : Option (List ℕ) → Type 0
ModuleFits None = Unit {0}
ModuleFits (Some name) = length (sized name) < 2 ^ 32

-- the indices of one map rise
abbrev pub KindIs : NameMaps (List ℕ) → MapKind → Type 0
KindIs names OfModule = Unit {0}
KindIs names (OfItems space) = IsMap (names.items space)
KindIs names (Inner space) = AreInner (names.inner space)
