use Rattle.std.proofs.Common.{Some, ap, ◌∙◌}
use Rattle.wast_parser_core.specs.State.{ahead}
use Rattle.wast_expressions.proofs.Turned.{turns_so, plain_opens, plain_closes}
use Rattle.wast_expressions.proofs.offset.plain_turn.Goals as goal

pub returns-in-Ok-true-clause-gives : goal.returns-in-Ok-true-clause-gives
returns-in-Ok-true-clause-gives g c =
    let T = g.I.Operation in
    turns_so c.head.result _ _ _ (plain_opens T.tree T.syntax T.heads T.made c.args.work.now (ahead c.args.parser.now) c.requires (c.in-Ok-true.ensures ∙ ap (λ v. Some v) c.in-Ok-true.field-0-test)) c.head.ensures.gives

pub returns-in-Some-clause-gives : goal.returns-in-Some-clause-gives
returns-in-Some-clause-gives g c =
    let T = g.I.Operation in
    turns_so c.close_level.result _ _ _ (plain_closes T.tree T.syntax T.heads T.made c.args.work.now c.leave.new.self c.in-Some.level (ahead c.args.parser.now) c.in-Some.ensures (c.in-Ok-false.ensures ∙ ap (λ v. Some v) c.in-Ok-false.field-0-test)) c.close_level.ensures.gives

pub returns-in-None-clause-gives : goal.returns-in-None-clause-gives
returns-in-None-clause-gives g c = absurd (c.requires c.in-None.ensures.0)
