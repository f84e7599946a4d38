use Rattle.wast_grammar.specs.Spelling.{same_name}
use Rattle.wast_resolve_laws.proofs.Names.{name_self, name_sound}
use Rattle.wast_encode_laws.proofs.Hints as made
use Rattle.wast_encode_laws.proofs.laws.meant_hints_fit.Goals as goal

pub returns : goal.returns
returns c = record {
  hints = λ fields is_made naming name met none fit. made.hints_fit same_name name_self name_sound is_made naming fields name met none fit;
  functions = λ fields is_made name fit. made.hint_functions fields fit;
}
