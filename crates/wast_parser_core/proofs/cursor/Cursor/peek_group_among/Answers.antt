use Rattle.std.proofs.Common.{subst, sym, ◌∙◌, ap, map, Ok, true, false, [], ◌∷◌}
use Rattle.wast_grammar.specs.Look.{AWord, On, OneOf, ask}
use Rattle.wast_parser_core.specs.State.{State, ahead}
use Rattle.wast_parser_core.specs.Cursors.{stands, GivesToken}
use Rattle.wast_parser_core.proofs.States.{asks_so}
use Rattle.wast_parser_core.proofs.Words.{no_group, within_group}
use Rattle.wast_parser_core.proofs.cursor.Cursor.peek_group_among.Goals.{in_default-via-in-Some+else-is_lparen, in_default-via-in_default}
use Rattle.wast_parser_core.proofs.cursor.Cursor.peek_group_among.Goals as goal

pub returns-in-Some : goal.returns-in-Some
returns-in-Some g c =
    let set = g.T.WordSet in
    let x = OneOf (map set.word set.entries) set.but in
    let s = stands c.args.self in
    let d = c.in-Some.rest in
    let next = subst (λ o. GivesToken (Ok o) c.args.self) c.in-Some.is c.in_ok-token.ensures in
    let same = ap (λ (z : State). ask (On false AWord x ∷ []) (ahead (record z { at = d.at }))) next.1 in
    let asked = same ∙ sym (within_group x s c.in-Some.token d.at next.0 (sym c.is_lparen.ensures ∙ c.if-is_lparen.true)) in
    asks_so c.peek_among.result _ _ _ _ (ap (λ (z : State). z.source) next.1) asked c.peek_among.ensures

pub returns-in_default : goal.returns-in_default
returns-in_default g c =
    let set = g.T.WordSet in
    let x = OneOf (map set.word set.entries) set.but in
    let s = stands c.args.self in
    elim c.in_default.branch [
      | in_default-via-in-Some+else-is_lparen w ↦
          let next = subst (λ o. GivesToken (Ok o) c.args.self) w.in-Some.is c.in_ok-token.ensures in
          no_group x s w.in-Some.token _ next.0 (sym w.is_lparen.ensures ∙ w.if-is_lparen.false)
      | in_default-via-in_default w ↦
          let none = subst (λ o. GivesToken (Ok o) c.args.self) w.in_default.is c.in_ok-token.ensures in
          ap (ask (On true AWord x ∷ [])) none
    ]
