use Rattle.std.proofs.Common.{◌≤◌, subst, sym, ◌∙◌, ap, Ok, Some, arith}
use Rattle.wast_grammar.specs.Grammar.{one_of}
use Rattle.wast_grammar.specs.Spelling.{that_open}
use Rattle.wast_parser_core.specs.State.{State, ahead, slack}
use Rattle.wast_parser_core.specs.Reading.{is_stuck}
use Rattle.wast_parser_core.specs.Cursors.{stands, GivesToken}
use Rattle.wast_parser_core.proofs.Fronts.{not_open, took_open}
use Rattle.wast_parser_core.proofs.Wants.{not_stuck}
use Rattle.wast_parser_core.proofs.cursor.Cursor.lparen.Goals.{in_default-via-in-Some+else-is_lparen, in_default-via-in_default}
use Rattle.wast_parser_core.proofs.cursor.Cursor.lparen.Goals as goal

pub returns-in-Some : goal.returns-in-Some
returns-in-Some c =
    let t = c.in-Some.token in
    let d = c.in-Some.rest in
    let next = subst (λ o. GivesToken (Ok o) c.args.self) c.in-Some.is c.in_ok-token.ensures in
    let low = next.0.onward in
    (t.offset, (took_open (stands c.args.self) t d.at next.0 (sym c.is_lparen.ensures ∙ c.if-is_lparen.true) ∙ ap (λ (s : State). Some (t.offset, ahead (record s { at = d.at }))) (sym next.1), record { same = next.1; onward = omega (arith, low) }, subst (λ (z : State). slack (record z { at = d.at }) ≤ slack (stands c.args.self)) (sym next.1) next.0.tight))

pub returns-in_default : goal.returns-in_default
returns-in_default c =
    let s = stands c.args.self in
    elim c.in_default.branch [
      | in_default-via-in-Some+else-is_lparen w ↦
          let next = subst (λ o. GivesToken (Ok o) c.args.self) w.in-Some.is c.in_ok-token.ensures in
          (not_open s w.in-Some.token w.in-Some.rest.at next.0 (sym w.is_lparen.ensures ∙ w.if-is_lparen.false), not_stuck s w.in-Some.token w.in-Some.rest.at next.0)
      | in_default-via-in_default w ↦
          let none = subst (λ o. GivesToken (Ok o) c.args.self) w.in_default.is c.in_ok-token.ensures in
          (ap (one_of that_open) none, ap is_stuck none)
    ]
