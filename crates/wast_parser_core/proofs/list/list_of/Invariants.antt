use Rattle.std.proofs.Common.{◌≡◌, map, length}
use Rattle.wast_grammar.specs.Grammar.{many_reads}
use Rattle.wast_grammar.proofs.Repeats.{with_front}
use Rattle.wast_parser_core.specs.State.{ahead, Keeps}
use Rattle.wast_parser_core.proofs.list.list_of.Given as goal

abbrev pub invariant-items : goal.invariant-items
invariant-items g l = let t = g.T.Meaning in record {
  keeps : Keeps l.fn.parser l.parser;
  same : with_front (map t.tree l.items.items) (many_reads t.syntax.starts t.syntax.reads (length (ahead l.parser)) (ahead l.parser)) ≡ many_reads t.syntax.starts t.syntax.reads (length (ahead l.fn.parser)) (ahead l.fn.parser);
}

abbrev pub decreases-items : goal.decreases-items
decreases-items g l = length (ahead l.parser)
