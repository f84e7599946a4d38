use Rattle.std.proofs.Common.{ap, pos}
use Rattle.std.specs.Int.{w64}
use Rattle.std.specs.List.{flat_map}
use Rattle.wast_vector_operands.specs.VectorViews.{lane_bytes}
use Rattle.wast_vector_operands.proofs.Places.{listed}
use Rattle.wast_vector_operands.proofs.bytes.i64x2_bytes.Goals as goal

pub returns : goal.returns
returns c =
    rw (
      c.i64_bytes.ensures,
      c.i64_bytes-2.ensures,
    )
    (ap (flat_map (lane_bytes w64)) (listed (pos 0) 2 c.args.lanes.now c.told-lanes))
