use Rattle.std.proofs.Common.{subst, sym, ◌∙◌, ap, Ok, inr}
use Rattle.wast_lexer.specs.TokenText.{text_of}
use Rattle.wast_grammar.specs.Grammar.{one_of}
use Rattle.wast_grammar.specs.Spelling.{same_text, that_one}
use Rattle.wast_parser_core.specs.Reading.{ShowsNext}
use Rattle.wast_parser_core.proofs.Words.{not_word, other_word}
use Rattle.wast_parser_core.proofs.parser.Parser.word.Goals.{in_default-via-in-Some+then-is_keyword+else-eq, in_default-via-in-Some+else-is_keyword, in_default-via-in_default}
use Rattle.wast_parser_core.proofs.parser.Parser.word.Goals as goal

pub returns-in_default-clause-exact : goal.returns-in_default-clause-exact
returns-in_default-clause-exact c =
    let s = c.args.self.now in
    elim c.in_default.branch [
      | in_default-via-in-Some+then-is_keyword+else-eq w ↦
          let next = subst (λ o. ShowsNext (Ok o) s) w.in-Some.is c.in_ok-after.ensures in
          let t = w.in-Some.token in
          let other = ap (same_text c.args.text.now) (sym (w.src.ensures ∙ ap (λ x. text_of x t) w.text.ensures)) ∙ sym w.eq.ensures ∙ w.if-eq.false in
          other_word c.args.text.now s t w.in-Some.after next (sym w.is_keyword.ensures ∙ w.if-is_keyword.true) other
      | in_default-via-in-Some+else-is_keyword w ↦
          let next = subst (λ o. ShowsNext (Ok o) s) w.in-Some.is c.in_ok-after.ensures in
          not_word c.args.text.now s w.in-Some.token w.in-Some.after next (sym w.is_keyword.ensures ∙ w.if-is_keyword.false)
      | in_default-via-in_default w ↦ (let none = subst (λ o. ShowsNext (Ok o) s) w.in_default.is c.in_ok-after.ensures in ap (one_of (that_one c.args.text.now)) none)
    ]

pub returns-in_default-clause-read : goal.returns-in_default-clause-read
returns-in_default-clause-read c = inr (returns-in_default-clause-exact c)
