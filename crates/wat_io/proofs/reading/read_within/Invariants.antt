use Rattle.std.proofs.Common.{◌≡◌, ◌≤◌, ◌-◌, vec_len, vec_items}
use Rattle.std.specs.Io.KnownBytes.{Consumes}
use Rattle.wat_io.proofs.reading.read_within.Given as goal

abbrev pub invariant-loop-input : goal.invariant-loop-input
invariant-loop-input g l = record {
  bounded : vec_len l.input ≤ l.bound;
  consumed : Consumes (g.R.Read.remaining l.initial.reader.inner) (g.R.Read.remaining l.reader.inner) (vec_items l.input);
  failures : l.reader.failures ≡ l.initial.reader.failures;
  piece : vec_len l.piece ≡ 65536;
}

abbrev pub decreases-loop-input : goal.decreases-loop-input
decreases-loop-input g l = l.bound - vec_len l.input
