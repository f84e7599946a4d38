use Rattle.std.proofs.Common.{subst, sym, ◌∙◌, ap, Ok, Some, false, [], ◌∷◌}
use Rattle.std.specs.Prelude.{is_some}
use Rattle.wast_lexer.specs.TokenText.{text_of}
use Rattle.wast_grammar.specs.Spelling.{after}
use Rattle.wast_grammar.specs.Look.{AWord, On, Begun, ask}
use Rattle.wast_parser_core.specs.Reading.{ShowsNext}
use Rattle.wast_parser_core.proofs.Beginnings.{asked_begun}
use Rattle.wast_parser_core.proofs.WordSets.{asked_no_word, some_map}
use Rattle.wast_parser_core.proofs.parser.Parser.peek_begun.Goals.{in_default-via-in-Some+else-is_keyword, in_default-via-in_default}
use Rattle.wast_parser_core.proofs.parser.Parser.peek_begun.Goals as goal

pub returns-in-Some : goal.returns-in-Some
returns-in-Some c =
    let s = c.args.self.now in
    let t = c.in-Some.token in
    let p = c.args.prefix.now in
    let next = subst (λ o. ShowsNext (Ok o) s) c.in-Some.is c.in_ok-token.ensures in
    let written = c.src.ensures ∙ ap (λ x. text_of x t) c.text.ensures in
    asked_begun p s t c.in-Some.field-0-1 next (sym c.is_keyword.ensures ∙ c.if-is_keyword.true)
    ∙ ap (λ w. Some (is_some (after p w))) (sym written)
    ∙ ap (λ o. Some (is_some o)) (sym c.behind.ensures)
    ∙ ap Some (some_map (λ b. b.now) c.behind.result ∙ sym c.is_some.ensures)

pub returns-in_default : goal.returns-in_default
returns-in_default c =
    let s = c.args.self.now in
    let p = c.args.prefix.now in
    elim c.in_default.branch [
      | in_default-via-in-Some+else-is_keyword w ↦
          let next = subst (λ o. ShowsNext (Ok o) s) w.in-Some.is c.in_ok-token.ensures in
          asked_no_word (Begun p) s w.in-Some.token _ next (sym w.is_keyword.ensures ∙ w.if-is_keyword.false)
      | in_default-via-in_default w ↦
          let none = subst (λ o. ShowsNext (Ok o) s) w.in_default.is c.in_ok-token.ensures in
          ap (ask (On false AWord (Begun p) ∷ [])) none
    ]
