-- The producers section (tool conventions of WebAssembly): fields, each a name and a list of values.
use Rattle.std.specs.Prelude.{ℕ, List, ◌++◌, codes}
use Rattle.wasm_encoder_base.specs.Bytes.{counted, sized}
use Rattle.wasm_encoder_base.specs.Lists.{Listed, list_bytes}
use Rattle.wasm_encoder_custom.specs.Custom.{Custom, custom}

abbrev pub producers_section : Listed → Custom
producers_section fields = custom (codes "producers") (list_bytes fields)

-- a producer and its version
pub record Producer : Type 0 where
  pub name : List ℕ
  pub version : List ℕ

abbrev pub producer_bytes : Producer → List ℕ
producer_bytes producer = sized producer.name ++ sized producer.version

pub record Field : Type 0 where
  pub name : List ℕ
  pub values : List Producer

abbrev pub field_bytes : Field → List ℕ
field_bytes field = sized field.name ++ counted producer_bytes field.values
