use Rattle.wast_grammar.specs.Spelling.{same_name}
use Rattle.wast_resolve_laws.proofs.DemandsKept as kept
use Rattle.wast_resolve_laws.proofs.Names.{name_self, name_sound}
use Rattle.wast_resolve_laws.proofs.laws.demands_kept.Goals as goal

pub returns : goal.returns
returns c = kept.demands_kept same_name name_self name_sound
