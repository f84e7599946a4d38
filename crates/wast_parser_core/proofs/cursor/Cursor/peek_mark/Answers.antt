use Rattle.std.proofs.Common.{subst, sym, ◌∙◌, ap, Ok, Some, ◌&&◌, [], ◌∷◌}
use Rattle.wast_grammar.specs.Spelling.{same_text}
use Rattle.wast_grammar.specs.Tokens.{marked_value}
use Rattle.wast_lexer.specs.TokenText.{text_of}
use Rattle.wast_grammar.specs.Look.{ask}
use Rattle.wast_parser_core.specs.Marks.{this_mark}
use Rattle.wast_parser_core.specs.Cursors.{stands, GivesToken}
use Rattle.wast_parser_core.proofs.MarkLooks.{asked_mark}
use Rattle.wast_parser_core.proofs.Names.{same_sym}
use Rattle.wast_parser_core.proofs.cursor.Cursor.peek_mark.Goals.{in_default-via-in-Some+else-is_annotation, in_default-via-in_default}
use Rattle.wast_parser_core.proofs.cursor.Cursor.peek_mark.Goals as goal

pub returns-in-Some : goal.returns-in-Some
returns-in-Some c =
    let s = stands c.args.self in
    let v = c.args.text.now in
    let t = c.in-Some.token in
    let next = subst (λ o. GivesToken (Ok o) c.args.self) c.in-Some.is c.in_ok-token.ensures in
    asked_mark v s t _ next.0
    ∙ ap (λ a. Some (a && same_text v (marked_value (text_of s.source.text t)))) (sym c.is_annotation.ensures.same ∙ c.if-is_annotation.true)
    ∙ ap Some (same_sym v (marked_value (text_of s.source.text t)) ∙ ap (λ x. same_text (marked_value (text_of x t)) v) (sym c.text.ensures) ∙ sym c.is_named.ensures)

pub returns-in_default : goal.returns-in_default
returns-in_default c =
    let s = stands c.args.self in
    let v = c.args.text.now in
    elim c.in_default.branch [
      | in_default-via-in-Some+else-is_annotation w ↦
          let next = subst (λ o. GivesToken (Ok o) c.args.self) w.in-Some.is c.in_ok-token.ensures in
          let t = w.in-Some.token in
          asked_mark v s t _ next.0 ∙ ap (λ a. Some (a && same_text v (marked_value (text_of s.source.text t)))) (sym w.is_annotation.ensures.same ∙ w.if-is_annotation.false)
      | in_default-via-in_default w ↦
          let none = subst (λ o. GivesToken (Ok o) c.args.self) w.in_default.is c.in_ok-token.ensures in
          ap (ask (this_mark v ∷ [])) none
    ]
