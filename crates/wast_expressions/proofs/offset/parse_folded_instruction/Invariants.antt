use Rattle.std.proofs.Common.{◌≡◌, [], Some, length}
use Rattle.wast_parser_core.specs.State.{ahead, Keeps}
use Rattle.wast_expressions.specs.Machine.{State, Reach, folded_head, is_folded}
use Rattle.wast_expressions.specs.Views.{here}
use Rattle.wast_expressions.proofs.offset.parse_folded_instruction.Given as goal

abbrev pub invariant-turns : goal.invariant-turns
invariant-turns g l = let T = g.I.Operation in record {
  reach : (s : State _ _ T.Tree) × (folded_head T.syntax T.heads [] [] (ahead l.fn.parser) ≡ Some s) × Reach T.syntax T.heads T.made (is_folded T.syntax T.heads T.made) s (here T.tree l.work (ahead l.parser));
  keeps : Keeps l.fn.parser l.parser;
}

abbrev pub decreases-turns : goal.decreases-turns
decreases-turns g l = length (ahead l.parser)
