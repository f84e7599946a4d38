use Rattle.wast_grammar.proofs.GrammarLaws.{seen_laws}
use Rattle.wast_expressions.specs.Expressions.{plain, without_hints}
use Rattle.wast_expressions.proofs.ExpressionLaws.{expression_laws, folded_laws, plain_laws, data_offset_laws}
use Rattle.wast_expressions.proofs.laws.read_as_spelled.Goals as goal

pub returns-clause-items : goal.returns-clause-items
returns-clause-items g c = let T = g.I.Operation in expression_laws T.syntax T.heads c.lawful.ensures c.heeds.ensures T.made

pub returns-clause-folded : goal.returns-clause-folded
returns-clause-folded g c = let T = g.I.Operation in folded_laws T.syntax T.heads c.lawful.ensures c.heeds.ensures T.made

pub returns-clause-plain : goal.returns-clause-plain
returns-clause-plain g c = let T = g.I.Operation in seen_laws (without_hints T.syntax T.heads) (plain T.syntax T.heads) (plain_laws T.syntax T.heads c.lawful.ensures c.heeds.ensures)

pub returns-clause-offset : goal.returns-clause-offset
returns-clause-offset g c = let T = g.I.Operation in data_offset_laws T.syntax T.heads c.lawful.ensures c.heeds.ensures T.made
