use Rattle.std.proofs.Common.{ap, pos}
use Rattle.std.specs.Int.{w32}
use Rattle.std.specs.List.{flat_map}
use Rattle.wast_vector_operands.specs.VectorViews.{lane_bytes}
use Rattle.wast_vector_operands.proofs.Places.{listed}
use Rattle.wast_vector_operands.proofs.bytes.i32x4_bytes.Goals as goal

pub returns : goal.returns
returns c =
    rw (
      c.i32_bytes.ensures,
      c.i32_bytes-2.ensures,
      c.i32_bytes-3.ensures,
      c.i32_bytes-4.ensures,
    )
    (ap (flat_map (lane_bytes w32)) (listed (pos 0) 4 c.args.lanes.now c.told-lanes))
