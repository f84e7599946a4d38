use Rattle.std.proofs.Common.{◌≡◌, take, All}
use Rattle.std.specs.List.{flat_map}
use Rattle.wasm_encoder_code.proofs.const_expr.spelled.Given as goal

abbrev pub invariant-loop-item : goal.invariant-loop-item
invariant-loop-item g l = record {
  spelled : l.bytes.items ≡ flat_map g.T.Encode.spelling (take l.item-index l.items);
  fits : All g.T.Encode.fits (take l.item-index l.items);
}
