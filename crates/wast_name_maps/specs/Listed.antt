-- Name maps as the lists that they are encoded as.
use Rattle.std.specs.Prelude.{ℕ, List}
use Rattle.wasm_encoder_custom.specs.Names.{naming_bytes, inner_naming_bytes}
use Rattle.wasm_layout.specs.AbstractModule.{Naming, InnerNaming}
use Rattle.wasm_layout.specs.Layout.{naming, inner_naming}

-- a name with its index, and the names inside of an item with its index
abbrev pub name_item : Naming (List ℕ) → List ℕ
name_item n = naming_bytes (naming n)

abbrev pub inner_item : InnerNaming (List ℕ) → List ℕ
inner_item n = inner_naming_bytes (inner_naming n)
