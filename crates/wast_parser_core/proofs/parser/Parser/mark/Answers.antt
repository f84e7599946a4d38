use Rattle.std.proofs.Common.{subst, sym, ◌∙◌, ap, Ok, inr, Some}
use Rattle.wast_lexer.specs.TokenText.{text_of}
use Rattle.wast_grammar.specs.Tokens.{marked_value}
use Rattle.wast_grammar.specs.Grammar.{one_of}
use Rattle.wast_grammar.specs.Spelling.{same_text, that_mark}
use Rattle.wast_parser_core.specs.State.{State, ahead}
use Rattle.wast_parser_core.specs.Reading.{ShowsNext}
use Rattle.wast_parser_core.proofs.Names.{same_sym}
use Rattle.wast_parser_core.proofs.Texts.{read_mark, not_mark}
use Rattle.wast_parser_core.proofs.parser.Parser.mark.Goals.{in_default-via-in-Some+else-is_annotation, in_default-via-in_default}
use Rattle.wast_parser_core.proofs.parser.Parser.mark.Goals as goal

pub returns-then-is_named-clause-read : goal.returns-then-is_named-clause-read
returns-then-is_named-clause-read c =
    let s = c.args.self.now in
    let t = c.in-Some.token in
    let i = c.in-Some.after in
    let v = c.args.text.now in
    let next = subst (λ o. ShowsNext (Ok o) s) c.in-Some.is c.in_ok-token.ensures in
    let same = same_sym v _ ∙ ap (λ x. same_text (marked_value (text_of x t)) v) (sym c.text.ensures) ∙ sym c.is_named.ensures ∙ c.if-is_named.true in
    read_mark v _ s t i next (sym c.is_annotation.ensures.same ∙ c.if-is_annotation.true) same
    ∙ ap (λ o. Some (o, ahead (record s { at = i }))) (sym c.from_offset.ensures)
    ∙ ap (λ (z : State). Some (c.from_offset.result, ahead (record z { at = i }))) (sym c.self.view_is)

pub returns-else-is_named-clause-exact : goal.returns-else-is_named-clause-exact
returns-else-is_named-clause-exact c =
    let s = c.args.self.now in
    let t = c.in-Some.token in
    let v = c.args.text.now in
    let next = subst (λ o. ShowsNext (Ok o) s) c.in-Some.is c.in_ok-token.ensures in
    let same = same_sym v _ ∙ ap (λ x. same_text (marked_value (text_of x t)) v) (sym c.text.ensures) ∙ sym c.is_named.ensures ∙ c.if-is_named.false in
    read_mark v _ s t c.in-Some.after next (sym c.is_annotation.ensures.same ∙ c.if-is_annotation.true) same

pub returns-else-is_named-clause-read : goal.returns-else-is_named-clause-read
returns-else-is_named-clause-read c = inr (returns-else-is_named-clause-exact c)

pub returns-in_default-clause-exact : goal.returns-in_default-clause-exact
returns-in_default-clause-exact c =
    let s = c.args.self.now in
    elim c.in_default.branch [
      | in_default-via-in-Some+else-is_annotation w ↦
          let next = subst (λ o. ShowsNext (Ok o) s) w.in-Some.is c.in_ok-token.ensures in
          not_mark c.args.text.now s w.in-Some.token w.in-Some.after next (sym w.is_annotation.ensures.same ∙ w.if-is_annotation.false)
      | in_default-via-in_default w ↦ (let none = subst (λ o. ShowsNext (Ok o) s) w.in_default.is c.in_ok-token.ensures in ap (one_of (that_mark c.args.text.now)) none)
    ]

pub returns-in_default-clause-read : goal.returns-in_default-clause-read
returns-in_default-clause-read c = inr (returns-in_default-clause-exact c)
