-- Name maps that can be written: numbers are of 32 bits, and so is the size of all.
use Rattle.std.specs.Prelude.{ℕ, ◌<◌, ◌^◌, List, length}
use Rattle.wasm_layout.specs.AbstractModule.{NameMaps}
use Rattle.wasm_layout.specs.IsModule.{AreNames}
use Rattle.wasm_layout.specs.Layout.{name_bytes}

-- all maps: their indices rise, and their bytes are few enough
pub record NamesFit (names : NameMaps (List ℕ)) : Type 0 where
  pub are_names : AreNames names
  pub size : length (name_bytes names) < 2 ^ 32
