use Rattle.std.proofs.Common.{◌≡◌, ◌<◌, ◌^◌, ◌++◌, length, take}
use Rattle.std.specs.List.{flat_map}
use Rattle.wasm_encoder_base.specs.Leb.{uleb}
use Rattle.wasm_encoder_code.specs.Locals.{pair_bytes}
use Rattle.wasm_encoder_code.proofs.function.Function.new.Given as goal

abbrev pub invariant-loop-count : goal.invariant-loop-count
invariant-loop-count l = record {
  spelled : l.bytes.items ≡ uleb (length l.locals) ++ flat_map pair_bytes (take l.count-index l.locals);
  fits : length l.locals < 2 ^ 32;
}
