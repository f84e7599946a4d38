use Rattle.std.proofs.Common.{◌≡◌, length, ◌+◌, ◌≤◌}
use Rattle.wast_parser_core.specs.State.{ahead, Keeps}
use Rattle.wast_expressions.specs.Machine.{Reach, turns, start, is_done}
use Rattle.wast_expressions.specs.Views.{here}
use Rattle.wast_expressions.proofs.expression.parse_counted.Given as goal

abbrev pub invariant-turns : goal.invariant-turns
invariant-turns g l = let T = g.I.Operation in record {
  reach : (r : Reach T.syntax T.heads T.made (is_done T.syntax T.heads T.made) (start T.syntax T.heads T.made (ahead l.fn.parser)) (here T.tree l.work (ahead l.parser))) × (l.steps ≡ l.fn.steps + turns T.syntax T.heads T.made r);
  keeps : Keeps l.fn.parser l.parser;
  taken : l.steps + l.fn.parser.at ≤ l.fn.steps + l.parser.at;
  turns : l.steps + length (ahead l.parser) ≤ l.fn.steps + length (ahead l.fn.parser);
}

abbrev pub decreases-turns : goal.decreases-turns
decreases-turns g l = length (ahead l.parser)
