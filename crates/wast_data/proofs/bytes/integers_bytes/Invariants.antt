use Rattle.std.proofs.Common.{◌≡◌, take}
use Rattle.std.specs.List.{flat_map}
use Rattle.wast_data.proofs.bytes.integers_bytes.Given as goal

abbrev pub invariant-loop-integer : goal.invariant-loop-integer
invariant-loop-integer g l = l.bytes.items ≡ flat_map g.T.DataInteger.bytes (take l.integer-index l.integers)
