use Rattle.std.proofs.Common.{subst, sym, ◌∙◌, ap, map, Ok, Some, false, [], ◌∷◌}
use Rattle.std.specs.Prelude.{is_some}
use Rattle.wast_lexer.specs.TokenText.{text_of}
use Rattle.wast_grammar.specs.Spelling.{find_but}
use Rattle.wast_grammar.specs.Look.{AWord, On, OneOf, ask}
use Rattle.wast_parser_core.specs.Cursors.{stands, GivesToken}
use Rattle.wast_parser_core.proofs.WordSets.{asked_among, asked_no_word, some_map}
use Rattle.wast_parser_core.proofs.cursor.Cursor.peek_among.Goals.{in_default-via-in-Some+else-is_keyword, in_default-via-in_default}
use Rattle.wast_parser_core.proofs.cursor.Cursor.peek_among.Goals as goal

pub returns-in-Some : goal.returns-in-Some
returns-in-Some g c =
    let set = g.T.WordSet in
    let s = stands c.args.self in
    let t = c.in-Some.token in
    let next = subst (λ o. GivesToken (Ok o) c.args.self) c.in-Some.is c.in_ok-token.ensures in
    let written = c.as_bytes.ensures.value ∙ c.src.ensures ∙ ap (λ x. text_of x t) c.text.ensures in
    asked_among set.word set.entries set.but s t _ next.0 (sym c.is_keyword.ensures ∙ c.if-is_keyword.true)
    ∙ ap (λ w. Some (is_some (find_but set.word set.entries set.but w))) (sym written)
    ∙ ap (λ o. Some (is_some o)) (sym c.of.ensures)
    ∙ ap Some (some_map set.entry c.of.result ∙ sym c.is_some.ensures)

pub returns-in_default : goal.returns-in_default
returns-in_default g c =
    let set = g.T.WordSet in
    let s = stands c.args.self in
    elim c.in_default.branch [
      | in_default-via-in-Some+else-is_keyword w ↦
          let next = subst (λ o. GivesToken (Ok o) c.args.self) w.in-Some.is c.in_ok-token.ensures in
          asked_no_word (OneOf (map set.word set.entries) set.but) s w.in-Some.token _ next.0 (sym w.is_keyword.ensures ∙ w.if-is_keyword.false)
      | in_default-via-in_default w ↦
          let none = subst (λ o. GivesToken (Ok o) c.args.self) w.in_default.is c.in_ok-token.ensures in
          ap (ask (On false AWord (OneOf (map set.word set.entries) set.but) ∷ [])) none
    ]
