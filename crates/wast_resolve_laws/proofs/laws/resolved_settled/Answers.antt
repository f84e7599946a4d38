use Rattle.wast_grammar.specs.Spelling.{same_name}
use Rattle.wast_resolve_laws.proofs.Names.{name_self, name_sound}
use Rattle.wast_resolve_laws.proofs.Resolved as made
use Rattle.wast_resolve_laws.proofs.laws.resolved_settled.Goals as goal

pub returns : goal.returns
returns c = λ fields naming met. made.resolved_settled same_name name_self name_sound naming fields met
