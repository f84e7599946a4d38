use Rattle.std.proofs.Common.{Some, ap, ◌∙◌}
use Rattle.wast_parser_core.specs.State.{ahead}
use Rattle.wast_expressions.proofs.Turned.{turns_so, more_condition}
use Rattle.wast_expressions.proofs.turn.conditions.Goals as goal

pub returns-in-Ok-clause-gives : goal.returns-in-Ok-clause-gives
returns-in-Ok-clause-gives g c =
    let T = g.I.Operation in
    turns_so c.group.result _ _ _ (more_condition T.tree T.syntax T.heads T.made c.args.work.now c.open.new.self c.args.hint c.args.instr (ahead c.args.parser.now) c.in-Ok.ensures.opened (c.in-Ok-true.ensures ∙ ap (λ v. Some v) c.in-Ok-true.field-0-test)) c.group.ensures.gives
