use Rattle.std.proofs.Common.{◌≡◌, ◌-◌, map, take, length}
use Rattle.wast_parser.specs.Grammar.{times_reads}
use Rattle.wast_parser.proofs.Repeats.{with_front}
use Rattle.wast_parser.specs.State.{ahead, Keeps}
use Rattle.wast_vector_operands.proofs.vector.fill.Given as goal

abbrev pub invariant-places : goal.invariant-places
invariant-places g l = let t = g.T.Meaning in record {
  keeps : Keeps l.fn.parser l.parser;
  places : length l.places ≡ length l.fn.places;
  same : with_front (map t.tree (take l.i l.places)) (times_reads (length l.places - l.i) t.syntax.reads (ahead l.parser)) ≡ times_reads (length l.fn.places) t.syntax.reads (ahead l.fn.parser);
}

abbrev pub decreases-places : goal.decreases-places
decreases-places g l = length l.places - l.i
