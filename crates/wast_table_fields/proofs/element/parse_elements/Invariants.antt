use Rattle.std.proofs.Common.{◌≡◌, map, length}
use Rattle.wast_field_syntax.specs.Grammar.{many_reads}
use Rattle.wast_field_syntax.proofs.Repeats.{with_front}
use Rattle.wast_field_syntax.specs.State.{ahead, Keeps}
use Rattle.wast_field_syntax.specs.ExpressionViews.{expression_tree}
use Rattle.wast_field_syntax.specs.DefinitionSyntax.{element}
use Rattle.wast_field_syntax.specs.ElemSyntax.{element_starts}
use Rattle.wast_table_fields.proofs.element.parse_elements.Given as goal

abbrev pub invariant-elements : goal.invariant-elements
invariant-elements l = record {
  keeps : Keeps l.fn.parser l.parser;
  same : with_front (map expression_tree l.elements.items) (many_reads element_starts element.reads (length (ahead l.parser)) (ahead l.parser)) ≡ many_reads element_starts element.reads (length (ahead l.fn.parser)) (ahead l.fn.parser);
}

abbrev pub decreases-elements : goal.decreases-elements
decreases-elements l = length (ahead l.parser)
