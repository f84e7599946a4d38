use Rattle.std.proofs.Common.{ap, pos}
use Rattle.std.specs.Int.{w8}
use Rattle.std.specs.List.{flat_map}
use Rattle.wast_vector_operands.specs.VectorViews.{lane_bytes}
use Rattle.wast_vector_operands.proofs.Places.{listed}
use Rattle.wast_vector_operands.proofs.bytes.i8x16_bytes.Goals as goal

pub returns : goal.returns
returns c =
    rw (
      c.i8_bytes.ensures,
      c.i8_bytes-2.ensures,
      c.i8_bytes-3.ensures,
      c.i8_bytes-4.ensures,
      c.i8_bytes-5.ensures,
      c.i8_bytes-6.ensures,
      c.i8_bytes-7.ensures,
      c.i8_bytes-8.ensures,
      c.i8_bytes-9.ensures,
      c.i8_bytes-10.ensures,
      c.i8_bytes-11.ensures,
      c.i8_bytes-12.ensures,
      c.i8_bytes-13.ensures,
      c.i8_bytes-14.ensures,
      c.i8_bytes-15.ensures,
      c.i8_bytes-16.ensures,
    )
    (ap (flat_map (lane_bytes w8)) (listed (pos 0) 16 c.args.lanes.now c.told-lanes))
