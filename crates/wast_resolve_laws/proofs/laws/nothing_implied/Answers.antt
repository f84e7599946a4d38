use Rattle.wast_grammar.specs.Spelling.{same_name}
use Rattle.wast_resolve_laws.proofs.Expanded as expanded
use Rattle.wast_resolve_laws.proofs.Names.{name_self}
use Rattle.wast_resolve_laws.proofs.laws.nothing_implied.Goals as goal

pub returns : goal.returns
returns c = record { nothing = expanded.expanded_implies_none same_name name_self; typed = expanded.expanded_typed same_name name_self }
