use Rattle.std.proofs.Common.{refl}
use Rattle.std.specs.Int.{w8, w16, w32, w64}
use Rattle.wast_vector_operands.specs.VectorViews.{lane_bytes}
use Rattle.wast_data.proofs.syntax.parse_numbers_of.Goals as goal

pub returns-in-I8-clause-read : goal.returns-in-I8-clause-read
returns-in-I8-clause-read c = rw c.in-I8.is (c.parse_integers.ensures.read (lane_bytes w8) (λ n. refl))

pub returns-in-I16-clause-read : goal.returns-in-I16-clause-read
returns-in-I16-clause-read c = rw c.in-I16.is (c.parse_integers-in-I16.ensures.read (lane_bytes w16) (λ n. refl))

pub returns-in-I32-clause-read : goal.returns-in-I32-clause-read
returns-in-I32-clause-read c = rw c.in-I32.is (c.parse_integers-in-I32.ensures.read (lane_bytes w32) (λ n. refl))

pub returns-in-I64-clause-read : goal.returns-in-I64-clause-read
returns-in-I64-clause-read c = rw c.in-I64.is (c.parse_integers-in-I64.ensures.read (lane_bytes w64) (λ n. refl))
