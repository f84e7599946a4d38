use Rattle.std.proofs.Common.{Some, refl, sym, ap, ◌∙◌}
use Rattle.std.proofs.lemmas.Result.{on_ok_weaker}
use Rattle.wast_parser_core.specs.State.{ahead}
use Rattle.wast_expressions.specs.Machine.{both_hints}
use Rattle.wast_expressions.specs.Items.{either_hint}
use Rattle.wast_expressions.specs.declared.stack.Level.TheVariants as levels
use Rattle.wast_expressions.specs.Views.{levels_tree, out_tree}
use Rattle.wast_parser_core.proofs.States.{refuses_all}
use Rattle.wast_expressions.proofs.Turned.{turned, arm_here, then_word, then_none, joined_some}
use Rattle.wast_expressions.proofs.turn.then_arm.Goals as goal

pub returns-in-Ok-push-clause-gives : goal.returns-in-Ok-push-clause-gives
returns-in-Ok-push-clause-gives g c =
    let T = g.I.Operation in
    let j = joined_some (both_hints c.args.outer c.in-Ok.hint) (either_hint c.args.outer c.in-Ok.hint) c.in-Some.hint (sym c.joined.ensures ∙ c.in-Some.is) in
    turned c.arm.result _ _
    (on_ok_weaker c.arm.result (λ e. then_word T.tree T.syntax T.heads T.made c.args.outer (T.tree c.args.instr) (levels_tree T.tree c.args.work.now.stack) (out_tree T.tree c.args.work.now.out) (ahead c.args.parser.now) (ahead c.hint.new.parser) (ahead c.open_word.new.parser) c.in-Ok.hint c.in-Ok-open_word.field-0 c.in-Ok.ensures.read j.0 c.in-Ok-open_word.ensures.read ∙ ap (λ v. Some v) (arm_here T.tree T.syntax T.heads T.made c.args.work.now c.push.new.self c.arm.new.work levels.AfterThen c.in-Some.hint (either_hint c.args.outer c.in-Ok.hint) c.args.instr (T.tree c.args.instr) (ahead c.open_word.new.parser) c.in-Ok-push.ensures.pushed e (sym j.1) refl)) c.arm.ensures.opened)
    c.arm.ensures.memory

pub returns-in-Err-open_word-clause-gives : goal.returns-in-Err-open_word-clause-gives
returns-in-Err-open_word-clause-gives g c =
    let T = g.I.Operation in
    refuses_all _ _ _ (then_none T.tree T.syntax T.heads T.made c.args.outer (T.tree c.args.instr) (levels_tree T.tree c.args.work.now.stack) (out_tree T.tree c.args.work.now.out) (ahead c.args.parser.now) (ahead c.hint.new.parser) c.in-Ok.hint c.in-Ok.ensures.read) c.in-Err-open_word.ensures.read
