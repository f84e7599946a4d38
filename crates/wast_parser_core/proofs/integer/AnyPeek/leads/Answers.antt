use Rattle.wast_parser_core.proofs.IntegerLaws.{integer_value_leads}
use Rattle.wast_parser_core.proofs.integer.AnyPeek.leads.Goals as goal

pub returns : goal.returns
returns g c = let t = g.T.FixedInteger in integer_value_leads t.most t.least t.says
