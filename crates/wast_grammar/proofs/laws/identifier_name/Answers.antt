use Rattle.wast_grammar.proofs.TextLaws.{id_named, id_nameless}
use Rattle.wast_grammar.proofs.laws.identifier_name.Goals as goal

pub returns-clause-named : goal.returns-clause-named
returns-clause-named c = id_named

pub returns-clause-nameless : goal.returns-clause-nameless
returns-clause-nameless c = id_nameless
