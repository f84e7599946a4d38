use Rattle.std.proofs.Common.{◌≡◌, false, true, Some, sym, ap, ◌∙◌}
use Rattle.wast_parser_core.specs.State.{ahead}
use Rattle.wast_parser_core.proofs.States.{keeps_trans, refuses_all}
use Rattle.wast_expressions.specs.Machine.{Here, is_folded, folded_head}
use Rattle.wast_expressions.specs.Partial.{Partial}
use Rattle.wast_expressions.specs.Views.{here, levels_tree, out_tree}
use Rattle.wast_expressions.proofs.Progress.{step_less}
use Rattle.wast_expressions.proofs.FoldedLaws.{folded_none, folded_answers, folded_refuses}
use Rattle.wast_expressions.proofs.Turned.{further, none_tree, none_is, some_is, finished}
use Rattle.wast_expressions.proofs.offset.parse_folded_instruction.Goals as goal

pub returns-in-Err-clause-read : goal.returns-in-Err-clause-read
returns-in-Err-clause-read g c =
    let T = g.I.Operation in
    refuses_all _ _ _ (λ n. folded_none T.syntax T.heads T.made c.lawful.ensures c.heeds.ensures (ahead c.args.parser.now) (ap (λ (u : Partial _). folded_head T.syntax T.heads (levels_tree T.tree u.stack) (out_tree T.tree u.out) (ahead c.args.parser.now)) (sym c.new-work.ensures) ∙ n)) c.in-Err.ensures.gives

pub turns-init : goal.turns-init
turns-init g c =
    let T = g.I.Operation in
    record { reach = (here T.tree c.head.new.work (ahead c.head.new.parser), ap (λ (u : Partial _). folded_head T.syntax T.heads (levels_tree T.tree u.stack) (out_tree T.tree u.out) (ahead c.args.parser.now)) (sym c.new-work.ensures) ∙ c.in-Ok.ensures.gives, Here); keeps = c.in-Ok.ensures.keeps }

pub turns-smaller : goal.turns-smaller
turns-smaller g c =
    let T = g.I.Operation in
    step_less T.syntax T.heads T.made c.lawful.ensures (here T.tree c.turns.work (ahead c.turns.parser)) (here T.tree c.turn.new.work (ahead c.turn.new.parser)) c.in-Ok-turn.ensures.gives

pub turns-preserved : goal.turns-preserved
turns-preserved g c =
    let T = g.I.Operation in
    let i = c.turns.invariant in
    record {
      reach = (i.reach.0, i.reach.1, further T.syntax T.heads T.made (is_folded T.syntax T.heads T.made) i.reach.2 (none_tree T.tree c.turns.work.stack false (some_is c.turns.work.stack (λ d. (let e : false ≡ true = sym c.turns-test.true ∙ c.is_closed.ensures.1 d in absurd (cc))))) c.in-Ok-turn.ensures.gives);
      keeps = keeps_trans _ _ _ i.keeps c.in-Ok-turn.ensures.keeps;
    }

pub returns-in-Err-turn-clause-read : goal.returns-in-Err-turn-clause-read
returns-in-Err-turn-clause-read g c =
    let T = g.I.Operation in
    let i = c.turns.invariant in
    refuses_all _ _ _ (folded_refuses T.syntax T.heads T.made c.lawful.ensures c.heeds.ensures (ahead c.args.parser.now) i.reach.0 (here T.tree c.turns.work (ahead c.turns.parser)) i.reach.1 i.reach.2 (none_tree T.tree c.turns.work.stack false (some_is c.turns.work.stack (λ d. (let e : false ≡ true = sym c.turns-test.true ∙ c.is_closed.ensures.1 d in absurd (cc)))))) c.in-Err-turn.ensures.gives

pub returns-clause-read : goal.returns-clause-read
returns-clause-read g c =
    let T = g.I.Operation in
    let i = c.turns.invariant in
    folded_answers T.syntax T.heads T.made c.lawful.ensures c.heeds.ensures (ahead c.args.parser.now) i.reach.0 (here T.tree c.turns.work (ahead c.turns.parser)) i.reach.1 i.reach.2 (none_tree T.tree c.turns.work.stack true (none_is c.turns.work.stack (c.is_closed.ensures.0 c.turns-test.false)))
    ∙ ap (λ z. Some (z, ahead c.turns.parser)) (finished T.tree c.finish.result c.turns.work.out c.finish.ensures)
