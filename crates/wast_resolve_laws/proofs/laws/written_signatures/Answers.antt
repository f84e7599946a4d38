use Rattle.wast_grammar.specs.Spelling.{same_name}
use Rattle.wast_resolve_laws.proofs.Outlined as outlined
use Rattle.wast_resolve_laws.proofs.laws.written_signatures.Goals as goal

pub returns : goal.returns
returns c = λ fields naming number. outlined.sig_written same_name naming fields number
