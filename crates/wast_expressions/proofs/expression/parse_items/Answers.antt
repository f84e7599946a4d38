use Rattle.std.proofs.Common.{true, false, Some, ap, sym, ◌∙◌}
use Rattle.wast_parser_core.specs.State.{ahead}
use Rattle.wast_parser_core.proofs.States.{keeps_self, keeps_trans, refuses_all}
use Rattle.wast_expressions.specs.Machine.{Here, is_done}
use Rattle.wast_expressions.specs.Views.{here}
use Rattle.wast_expressions.proofs.Progress.{step_less}
use Rattle.wast_expressions.proofs.Turned.{further, done_tree, finished}
use Rattle.wast_expressions.proofs.WholeLaws.{loop_answers, loop_refuses}
use Rattle.wast_expressions.proofs.expression.parse_items.Goals as goal

pub turns-init : goal.turns-init
turns-init g c = record { reach = rw c.new-work.ensures Here; keeps = keeps_self c.args.parser.now }

pub turns-smaller : goal.turns-smaller
turns-smaller g c =
    let T = g.I.Operation in
    step_less T.syntax T.heads T.made c.lawful.ensures (here T.tree c.turns.work (ahead c.turns.parser)) (here T.tree c.turn.new.work (ahead c.turn.new.parser)) c.in-Ok.ensures.gives

pub turns-preserved : goal.turns-preserved
turns-preserved g c =
    let T = g.I.Operation in
    let i = c.turns.invariant in
    record {
      reach = further T.syntax T.heads T.made (is_done T.syntax T.heads T.made) i.reach (done_tree T.tree c.turns.work (ahead c.turns.parser) false (sym c.is_done.ensures ∙ c.turns-test.true)) c.in-Ok.ensures.gives;
      keeps = keeps_trans _ _ _ i.keeps c.in-Ok.ensures.keeps;
    }

pub returns-in-Err-clause-read : goal.returns-in-Err-clause-read
returns-in-Err-clause-read g c =
    let T = g.I.Operation in
    refuses_all _ _ _ (loop_refuses T.syntax T.heads T.made c.lawful.ensures c.heeds.ensures (ahead c.args.parser.now) (here T.tree c.turns.work (ahead c.turns.parser)) c.turns.invariant.reach (done_tree T.tree c.turns.work (ahead c.turns.parser) false (sym c.is_done.ensures ∙ c.turns-test.true))) c.in-Err.ensures.gives

pub returns-clause-read : goal.returns-clause-read
returns-clause-read g c =
    let T = g.I.Operation in
    loop_answers T.syntax T.heads T.made c.lawful.ensures c.heeds.ensures (ahead c.args.parser.now) (here T.tree c.turns.work (ahead c.turns.parser)) c.turns.invariant.reach (done_tree T.tree c.turns.work (ahead c.turns.parser) true (sym c.is_done.ensures ∙ c.turns-test.false))
    ∙ ap (λ z. Some (z, ahead c.turns.parser)) (finished T.tree c.finish.result c.turns.work.out c.finish.ensures)
