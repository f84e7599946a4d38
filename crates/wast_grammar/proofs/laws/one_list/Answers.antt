use Rattle.wast_grammar.proofs.SignificantLaws.{one_list}
use Rattle.wast_grammar.proofs.laws.one_list.Goals as goal

pub returns : goal.returns
returns c = one_list
