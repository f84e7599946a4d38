use Rattle.std.proofs.Common.{Some, None, refl, sym, ap, ◌∙◌}
use Rattle.std.proofs.lemmas.Result.{on_ok_weaker}
use Rattle.wast_parser_core.specs.State.{State, ahead}
use Rattle.wast_expressions.specs.declared.stack.Level.TheVariants as levels
use Rattle.wast_expressions.specs.Views.{here, levels_tree, out_tree}
use Rattle.wast_parser_core.proofs.States.{refuses_all}
use Rattle.wast_expressions.proofs.Turned.{turned, arm_here, else_word, else_none}
use Rattle.wast_expressions.proofs.turn.else_arm.Goals as goal

pub returns-in-Ok-push-clause-gives : goal.returns-in-Ok-push-clause-gives
returns-in-Ok-push-clause-gives g c =
    let T = g.I.Operation in
    turned c.arm.result _ _
    (on_ok_weaker c.arm.result (λ e. else_word T.tree T.syntax T.heads T.made (levels_tree T.tree c.args.work.now.stack) (out_tree T.tree c.args.work.now.out) (ahead c.args.parser.now) (ahead c.open_word.new.parser) c.in-Ok.span c.in-Ok.ensures.read ∙ ap (λ v. Some v) (arm_here T.tree T.syntax T.heads T.made c.args.work.now c.push.new.self c.arm.new.work levels.AfterElse None None c.make-instr.result (T.made.else_at c.in-Ok.span) (ahead c.open_word.new.parser) c.in-Ok-push.ensures.pushed e refl c.make-instr.ensures.made) ∙ ap (λ (z : State). Some (here T.tree c.arm.new.work (ahead z))) (sym c.make-instr.ensures.still)) c.arm.ensures.opened)
    c.arm.ensures.memory

pub returns-in-Err-clause-gives : goal.returns-in-Err-clause-gives
returns-in-Err-clause-gives g c =
    let T = g.I.Operation in
    refuses_all _ _ _ (else_none T.tree T.syntax T.heads T.made (levels_tree T.tree c.args.work.now.stack) (out_tree T.tree c.args.work.now.out) (ahead c.args.parser.now)) c.in-Err.ensures.read
