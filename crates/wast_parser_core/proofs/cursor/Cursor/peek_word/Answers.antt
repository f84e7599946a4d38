use Rattle.std.proofs.Common.{subst, sym, ◌∙◌, ap, Ok, Some, ◌&&◌, [], ◌∷◌}
use Rattle.wast_grammar.specs.Spelling.{same_text}
use Rattle.wast_lexer.specs.TokenText.{text_of}
use Rattle.wast_grammar.specs.Look.{ask, this_word}
use Rattle.wast_parser_core.specs.Cursors.{stands, GivesToken}
use Rattle.wast_parser_core.proofs.Words.{asked_word}
use Rattle.wast_parser_core.proofs.cursor.Cursor.peek_word.Goals.{in_default-via-in-Some+else-is_keyword, in_default-via-in_default}
use Rattle.wast_parser_core.proofs.cursor.Cursor.peek_word.Goals as goal

pub returns-in-Some : goal.returns-in-Some
returns-in-Some c =
    let s = stands c.args.self in
    let v = c.args.text.now in
    let t = c.in-Some.token in
    let next = subst (λ o. GivesToken (Ok o) c.args.self) c.in-Some.is c.in_ok-token.ensures in
    asked_word v s t _ next.0
    ∙ ap (λ a. Some (a && same_text v (text_of s.source.text t))) (sym c.is_keyword.ensures ∙ c.if-is_keyword.true)
    ∙ ap Some (ap (same_text v) (sym (c.src.ensures ∙ ap (λ x. text_of x t) c.text.ensures)) ∙ sym c.eq.ensures)

pub returns-in_default : goal.returns-in_default
returns-in_default c =
    let s = stands c.args.self in
    let v = c.args.text.now in
    elim c.in_default.branch [
      | in_default-via-in-Some+else-is_keyword w ↦
          let next = subst (λ o. GivesToken (Ok o) c.args.self) w.in-Some.is c.in_ok-token.ensures in
          let t = w.in-Some.token in
          asked_word v s t _ next.0 ∙ ap (λ a. Some (a && same_text v (text_of s.source.text t))) (sym w.is_keyword.ensures ∙ w.if-is_keyword.false)
      | in_default-via-in_default w ↦
          let none = subst (λ o. GivesToken (Ok o) c.args.self) w.in_default.is c.in_ok-token.ensures in
          ap (ask (this_word v ∷ [])) none
    ]
