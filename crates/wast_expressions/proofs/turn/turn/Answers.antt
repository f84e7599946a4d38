use Rattle.std.proofs.Common.{refl}
use Rattle.wast_parser_core.specs.State.{ahead}
use Rattle.wast_expressions.proofs.Turned.{turns_so, turn_none}
use Rattle.wast_expressions.proofs.turn.turn.Goals as goal

pub returns-then-is_closed-clause-gives : goal.returns-then-is_closed-clause-gives
returns-then-is_closed-clause-gives g c =
    let T = g.I.Operation in
    turns_so c.items.result _ _ _ (turn_none T.tree T.syntax T.heads T.made c.args.work.now c.args.work.now (ahead c.args.parser.now) (c.is_closed.ensures.0 c.if-is_closed.true) refl) c.items.ensures.gives
