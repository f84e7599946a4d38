use Rattle.std.proofs.Common.{sym, ◌∙◌}
use Rattle.wast_parser_core.proofs.Places.{named}
use Rattle.wast_parser_core.proofs.annotation.place_of.Goals as goal

pub returns-then-eq-clause-same : goal.returns-then-eq-clause-same
returns-then-eq-clause-same c = named c.args.names.now c.names.i _ c.args.name.now c.names-test.true (sym c.eq.ensures ∙ c.if-eq.true)
