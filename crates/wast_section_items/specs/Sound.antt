-- Functions whose numbers are in the ranges of their binary fields, by their types and by their bodies: in both ways, `IsFunction` of `wasm_layout`
-- holds (WebAssembly 3.0, 5.5.6 and 5.5.13).
use Rattle.std.specs.List.{AllByRecursion}
use Rattle.wasm_encoder_base.specs.Types.{IsValType}
use Rattle.wasm_encoder_code.specs.Body.{IsBody}
use Rattle.wasm_layout.specs.AbstractModule.{Function}
use Rattle.wasm_layout.specs.IsModule.{IsU32}

abbrev pub TypeSound : Function → Type 0
TypeSound f = IsU32 f.type_index

abbrev pub BodySound : Function → Type 0
BodySound f = AllByRecursion IsValType f.body.locals × IsBody f.body
