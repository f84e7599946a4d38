-- Entries of the code section (WebAssembly 3.0, 5.5.13).
use Rattle.std.specs.Prelude.{ℕ, List}
use Rattle.wasm_encoder_base.specs.Bytes.{sized}

-- what a body adds to the section
abbrev pub function_item : List ℕ → List ℕ
function_item body = sized body
