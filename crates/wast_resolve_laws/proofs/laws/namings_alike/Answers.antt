use Rattle.std.proofs.Common.{sym, ◌∙◌}
use Rattle.wast_grammar.specs.Spelling.{same_name}
use Rattle.wast_resolve_laws.proofs.Names.{name_self, name_sound}
use Rattle.wast_resolve_laws.proofs.WrittenDemands.{written_demands}
use Rattle.wast_resolve_laws.proofs.laws.namings_alike.Goals as goal

pub returns : goal.returns
returns c = λ fields first second one other. written_demands same_name name_self name_sound first fields one ∙ sym (written_demands same_name name_self name_sound second fields other)
