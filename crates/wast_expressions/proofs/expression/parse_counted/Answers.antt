use Rattle.std.proofs.Common.{arith, true, false, Some, ap, sym, ◌∙◌, ◌+◌, refl}
use Rattle.wast_parser_core.specs.State.{ahead}
use Rattle.wast_parser_core.proofs.States.{keeps_self, keeps_trans, refuses_all}
use Rattle.wast_expressions.specs.Machine.{Here, is_done, turns}
use Rattle.wast_expressions.specs.Views.{here}
use Rattle.wast_expressions.proofs.Progress.{step_less}
use Rattle.wast_expressions.proofs.Turned.{further, further_turns, moved, done_tree, finished}
use Rattle.wast_expressions.proofs.WholeLaws.{loop_answers, loop_refuses}
use Rattle.wast_expressions.proofs.expression.parse_counted.Goals as goal

pub turns-init : goal.turns-init
turns-init g c = record { reach = rw c.new-work.ensures (Here, omega arith); keeps = keeps_self c.args.parser.now; taken = omega arith; turns = omega arith }

pub turns-smaller : goal.turns-smaller
turns-smaller g c =
    let T = g.I.Operation in
    step_less T.syntax T.heads T.made c.lawful.ensures (here T.tree c.turns.work (ahead c.turns.parser)) (here T.tree c.turn.new.work (ahead c.turn.new.parser)) c.in-Ok.ensures.gives

pub turns-preserved : goal.turns-preserved
turns-preserved g c =
    let T = g.I.Operation in
    let l = step_less T.syntax T.heads T.made c.lawful.ensures (here T.tree c.turns.work (ahead c.turns.parser)) (here T.tree c.turn.new.work (ahead c.turn.new.parser)) c.in-Ok.ensures.gives in
    let p = moved c.turns.parser c.turn.new.parser c.in-Ok.ensures.keeps l in
    let k = c.tick.ensures in
    let i = c.turns.invariant in
    let ic = i.reach.1 in
    let it = i.taken in
    let iu = i.turns in
    record {
      reach = (further T.syntax T.heads T.made (is_done T.syntax T.heads T.made) i.reach.0 (done_tree T.tree c.turns.work (ahead c.turns.parser) false (sym c.is_done.ensures ∙ c.turns-test.true)) c.in-Ok.ensures.gives, omega (arith, k, ic, further_turns T.syntax T.heads T.made (is_done T.syntax T.heads T.made) i.reach.0 (done_tree T.tree c.turns.work (ahead c.turns.parser) false (sym c.is_done.ensures ∙ c.turns-test.true)) c.in-Ok.ensures.gives));
      keeps = keeps_trans _ _ _ i.keeps c.in-Ok.ensures.keeps;
      taken = omega (arith, k, it, p);
      turns = omega (arith, k, iu, l);
    }

pub returns-in-Err-clause-read : goal.returns-in-Err-clause-read
returns-in-Err-clause-read g c =
    let T = g.I.Operation in
    refuses_all _ _ _ (loop_refuses T.syntax T.heads T.made c.lawful.ensures c.heeds.ensures (ahead c.args.parser.now) (here T.tree c.turns.work (ahead c.turns.parser)) c.turns.invariant.reach.0 (done_tree T.tree c.turns.work (ahead c.turns.parser) false (sym c.is_done.ensures ∙ c.turns-test.true))) c.in-Err.ensures.gives

pub returns-clause-read : goal.returns-clause-read
returns-clause-read g c =
    let T = g.I.Operation in
    loop_answers T.syntax T.heads T.made c.lawful.ensures c.heeds.ensures (ahead c.args.parser.now) (here T.tree c.turns.work (ahead c.turns.parser)) c.turns.invariant.reach.0 (done_tree T.tree c.turns.work (ahead c.turns.parser) true (sym c.is_done.ensures ∙ c.turns-test.false))
    ∙ ap (λ z. Some (z, ahead c.turns.parser)) (finished T.tree c.finish.result c.turns.work.out c.finish.ensures)

pub returns-in-Err-clause-counted : goal.returns-in-Err-clause-counted
returns-in-Err-clause-counted g c =
    let T = g.I.Operation in
    let r = c.turns.invariant.reach in
    let k = c.tick.ensures in
    let ic = r.1 in
    (turns T.syntax T.heads T.made r.0 + 1, omega (arith, k, ic), (here T.tree c.turns.work (ahead c.turns.parser), r.0, (done_tree T.tree c.turns.work (ahead c.turns.parser) false (sym c.is_done.ensures ∙ c.turns-test.true), c.in-Err.ensures.gives), refl))

pub returns-clause-counted : goal.returns-clause-counted
returns-clause-counted g c =
    let T = g.I.Operation in
    let r = c.turns.invariant.reach in
    (turns T.syntax T.heads T.made r.0, r.1, (here T.tree c.turns.work (ahead c.turns.parser), r.0, done_tree T.tree c.turns.work (ahead c.turns.parser) true (sym c.is_done.ensures ∙ c.turns-test.false), omega arith))
