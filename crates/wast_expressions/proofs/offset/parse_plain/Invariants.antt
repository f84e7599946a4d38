use Rattle.std.proofs.Common.{length}
use Rattle.wast_parser_core.specs.State.{ahead, Keeps}
use Rattle.wast_expressions.specs.Views.{here}
use Rattle.wast_expressions.proofs.PlainOutcome.{Standing}
use Rattle.wast_expressions.proofs.offset.parse_plain.Given as goal

abbrev pub invariant-turns : goal.invariant-turns
invariant-turns g l = let T = g.I.Operation in record {
  stands : Standing T.syntax T.heads (ahead l.fn.parser) (here T.tree l.work (ahead l.parser));
  keeps : Keeps l.fn.parser l.parser;
}

abbrev pub decreases-turns : goal.decreases-turns
decreases-turns g l = length (ahead l.parser)
