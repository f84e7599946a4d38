use Rattle.wast_grammar.proofs.TextLaws.{annotation_is}
use Rattle.wast_grammar.proofs.laws.annotation_name.Goals as goal

pub returns : goal.returns
returns c = annotation_is
