use Rattle.wast_grammar.specs.Spelling.{same_name}
use Rattle.wast_encode_laws.proofs.NameMaps as made
use Rattle.wast_encode_laws.proofs.laws.meant_names_fit.Goals as goal

pub returns : goal.returns
returns c = λ fields is_made name fit. made.are_names same_name is_made fields name fit
