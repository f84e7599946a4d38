use Rattle.wast_grammar.specs.Spelling.{same_name}
use Rattle.wast_resolve_laws.proofs.Names.{name_self, name_sound}
use Rattle.wast_encode_laws.proofs.Ready as made
use Rattle.wast_encode_laws.proofs.laws.ready_when_resolved.Goals as goal

pub returns : goal.returns
returns c = λ fields naming met. made.ready same_name naming fields name_self name_sound met
