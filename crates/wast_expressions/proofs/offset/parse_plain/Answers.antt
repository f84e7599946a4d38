use Rattle.std.proofs.Common.{◌≡◌, false, true, Some, sym, ap, ◌∙◌}
use Rattle.wast_grammar.specs.Spelling.{◌>>=◌}
use Rattle.wast_parser_core.specs.State.{ahead}
use Rattle.wast_parser_core.proofs.States.{keeps_trans, refuses_all}
use Rattle.wast_expressions.specs.Expressions.{without_hints}
use Rattle.wast_expressions.specs.Machine.{folded_head}
use Rattle.wast_expressions.specs.Partial.{Partial}
use Rattle.wast_expressions.specs.Views.{here, levels_tree, out_tree}
use Rattle.wast_expressions.proofs.Progress.{plain_step_less}
use Rattle.wast_expressions.proofs.PlainLaws.{stands_first, stands_none, stands_next, stands_stuck, stands_last}
use Rattle.wast_expressions.proofs.Turned.{no_levels, finished}
use Rattle.wast_expressions.proofs.offset.parse_plain.Goals as goal

pub returns-in-Err-clause-read : goal.returns-in-Err-clause-read
returns-in-Err-clause-read g c =
    let T = g.I.Operation in
    refuses_all _ _ _ (λ n. ap (λ z. z >>= λ x. Some (without_hints T.syntax T.heads x.0, x.1)) (stands_none T.syntax T.heads c.lawful.ensures c.heeds.ensures T.made (ahead c.args.parser.now) (ap (λ (u : Partial _). folded_head T.syntax T.heads (levels_tree T.tree u.stack) (out_tree T.tree u.out) (ahead c.args.parser.now)) (sym c.new-work.ensures) ∙ n))) c.in-Err.ensures.gives

pub turns-init : goal.turns-init
turns-init g c =
    let T = g.I.Operation in
    record { stands = stands_first T.syntax T.heads c.lawful.ensures c.heeds.ensures T.made (ahead c.args.parser.now) (here T.tree c.head.new.work (ahead c.head.new.parser)) (ap (λ (u : Partial _). folded_head T.syntax T.heads (levels_tree T.tree u.stack) (out_tree T.tree u.out) (ahead c.args.parser.now)) (sym c.new-work.ensures) ∙ c.in-Ok.ensures.gives); keeps = c.in-Ok.ensures.keeps }

pub turns-smaller : goal.turns-smaller
turns-smaller g c =
    let T = g.I.Operation in
    plain_step_less T.syntax T.heads T.made c.lawful.ensures (here T.tree c.turns.work (ahead c.turns.parser)) (here T.tree c.plain_turn.new.work (ahead c.plain_turn.new.parser)) c.in-Ok-plain_turn.ensures.gives

pub turns-preserved : goal.turns-preserved
turns-preserved g c =
    let T = g.I.Operation in
    let i = c.turns.invariant in
    record {
      stands = stands_next T.syntax T.heads c.lawful.ensures c.heeds.ensures T.made (ahead c.args.parser.now) (here T.tree c.turns.work (ahead c.turns.parser)) (here T.tree c.plain_turn.new.work (ahead c.plain_turn.new.parser)) i.stands c.in-Ok-plain_turn.ensures.gives;
      keeps = keeps_trans _ _ _ i.keeps c.in-Ok-plain_turn.ensures.keeps;
    }

pub returns-in-Err-plain_turn-clause-read : goal.returns-in-Err-plain_turn-clause-read
returns-in-Err-plain_turn-clause-read g c =
    let T = g.I.Operation in
    let i = c.turns.invariant in
    refuses_all _ _ _ (λ n. ap (λ z. z >>= λ x. Some (without_hints T.syntax T.heads x.0, x.1)) (stands_stuck T.syntax T.heads c.lawful.ensures c.heeds.ensures T.made (ahead c.args.parser.now) (here T.tree c.turns.work (ahead c.turns.parser)) i.stands (λ d. (let e : false ≡ true = sym c.turns-test.true ∙ c.is_closed.ensures.1 (no_levels T.tree c.turns.work.stack d) in absurd (cc))) n)) c.in-Err-plain_turn.ensures.gives

pub returns-clause-read : goal.returns-clause-read
returns-clause-read g c =
    let T = g.I.Operation in
    let i = c.turns.invariant in
    stands_last T.syntax T.heads c.lawful.ensures c.heeds.ensures T.made (ahead c.args.parser.now) (here T.tree c.turns.work (ahead c.turns.parser)) i.stands (ap (levels_tree T.tree) (c.is_closed.ensures.0 c.turns-test.false))
    ∙ ap (λ z. Some (z, ahead c.turns.parser)) (finished T.tree c.finish.result c.turns.work.out c.finish.ensures)
