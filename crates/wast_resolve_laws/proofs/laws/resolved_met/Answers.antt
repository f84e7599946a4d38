use Rattle.wast_grammar.specs.Spelling.{same_name}
use Rattle.wast_resolve_laws.proofs.Names.{name_self, name_sound}
use Rattle.wast_resolve_laws.proofs.Resolved as made
use Rattle.wast_resolve_laws.proofs.laws.resolved_met.Goals as goal

pub returns : goal.returns
returns c = λ fields naming other met. made.resolved_met same_name name_self name_sound naming fields met other
