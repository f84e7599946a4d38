use Rattle.std.proofs.Common.{ap, pos}
use Rattle.std.specs.Int.{w16}
use Rattle.std.specs.List.{flat_map}
use Rattle.wast_vector_operands.specs.VectorViews.{lane_bytes}
use Rattle.wast_vector_operands.proofs.Places.{listed}
use Rattle.wast_vector_operands.proofs.bytes.i16x8_bytes.Goals as goal

pub returns : goal.returns
returns c =
    rw (
      c.i16_bytes.ensures,
      c.i16_bytes-2.ensures,
      c.i16_bytes-3.ensures,
      c.i16_bytes-4.ensures,
      c.i16_bytes-5.ensures,
      c.i16_bytes-6.ensures,
      c.i16_bytes-7.ensures,
      c.i16_bytes-8.ensures,
    )
    (ap (flat_map (lane_bytes w16)) (listed (pos 0) 8 c.args.lanes.now c.told-lanes))
