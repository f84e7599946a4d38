use Rattle.wast_grammar.specs.Spelling.{same_name}
use Rattle.wast_resolve_laws.proofs.Names.{name_self, name_sound}
use Rattle.wast_encode_laws.proofs.Placed as made
use Rattle.wast_encode_laws.proofs.laws.functions_placed.Goals as goal

pub returns : goal.returns
returns c = λ fields naming met. made.functions_placed same_name name_self name_sound naming fields met
