use Rattle.wast_expressions.proofs.Peeks.{any_word_leads}
use Rattle.wast_expressions.proofs.look.WordPeek.leads.Goals as goal

pub returns : goal.returns
returns g c = any_word_leads g.I.Operation.heads
