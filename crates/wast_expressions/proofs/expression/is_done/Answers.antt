use Rattle.std.proofs.Common.{ap, sym, ◌∙◌}
use Rattle.wast_parser_core.specs.State.{ahead}
use Rattle.wast_expressions.specs.Machine.{done}
use Rattle.wast_expressions.proofs.Turned.{ends_so}
use Rattle.wast_expressions.proofs.expression.is_done.Goals as goal

pub returns-then-is_closed : goal.returns-then-is_closed
returns-then-is_closed g c = c.is_empty.ensures ∙ ends_so (ahead c.args.parser.now) ∙ sym (ap (λ st. done st (ahead c.args.parser.now)) (c.is_closed.ensures.0 c.if-is_closed.true))
