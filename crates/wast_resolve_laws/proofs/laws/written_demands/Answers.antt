use Rattle.wast_grammar.specs.Spelling.{same_name}
use Rattle.wast_resolve_laws.proofs.Names.{name_self, name_sound}
use Rattle.wast_resolve_laws.proofs.WrittenDemands as written
use Rattle.wast_resolve_laws.proofs.laws.written_demands.Goals as goal

pub returns : goal.returns
returns c = λ fields naming fresh. written.written_demands same_name name_self name_sound naming fields fresh
