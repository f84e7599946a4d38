-- Custom sections (WebAssembly 3.0, 5.5.3): a name, and data that the name says how to read.
use Rattle.std.specs.Prelude.{ℕ, ◌<◌, ◌^◌, List, ◌∷◌, ◌++◌, length}
use Rattle.wasm_encoder_base.specs.Bytes.{sized}

pub record Custom : Type 0 where
  pub name : List ℕ
  pub contents : List ℕ

abbrev pub custom_body : Custom → List ℕ
custom_body custom = sized custom.name ++ custom.contents

-- what follows the section's number 0: the size, the name, the data
abbrev pub custom_bytes : Custom → List ℕ
custom_bytes custom = sized (custom_body custom)

-- the size, and so the length of the name, is a number of 32 bits
abbrev pub CustomFits : Custom → Type 0
CustomFits custom = length (custom_body custom) < 2 ^ 32

-- a custom section by its name and its data
abbrev pub custom : List ℕ → List ℕ → Custom
custom name contents = record { name = name; contents = contents }

-- a part of a section's data: its number, its size, its contents
abbrev pub subsection : ℕ → List ℕ → List ℕ
subsection number contents = number ∷ sized contents
