use Rattle.wast_grammar.specs.Spelling.{same_name}
use Rattle.wast_resolve_laws.proofs.Fresh as made
use Rattle.wast_resolve_laws.proofs.laws.written_names.Goals as goal

pub returns : goal.returns
returns c = λ fields naming space name new. made.denotes_written same_name naming fields space name new
