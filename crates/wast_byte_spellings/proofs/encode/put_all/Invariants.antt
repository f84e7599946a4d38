use Rattle.std.proofs.Common.{◌≡◌, ◌<◌, ◌^◌, ◌++◌, length, take, All}
use Rattle.std.specs.List.{flat_map}
use Rattle.wasm_encoder_bytes.specs.Leb.{uleb}
use Rattle.wast_byte_spellings.proofs.encode.put_all.Given as goal

abbrev pub invariant-loop-item : goal.invariant-loop-item
invariant-loop-item g l = record {
  spelled : l.sink.items ≡ l.fn.sink.items ++ (uleb (length l.items) ++ flat_map g.T.Encode.spelling (take l.item-index l.items));
  fits : (length l.items < 2 ^ 32) × All g.T.Encode.fits (take l.item-index l.items);
}
