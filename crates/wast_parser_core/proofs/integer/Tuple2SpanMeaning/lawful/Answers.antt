use Rattle.wast_parser_core.proofs.IntegerLaws.{number_laws}
use Rattle.wast_parser_core.proofs.integer.Tuple2SpanMeaning.lawful.Goals as goal

pub returns : goal.returns
returns g c = let t = g.T.FixedInteger in number_laws t.most t.least t.says
