use Rattle.std.proofs.Common.{subst, sym, ◌∙◌, ap, Ok, Some, inr}
use Rattle.wast_lexer.specs.Strings.{IsString}
use Rattle.wast_lexer.specs.TokenText.{text_of}
use Rattle.wast_grammar.proofs.TextLaws.{string_is}
use Rattle.wast_parser_core.specs.State.{State, ahead}
use Rattle.wast_grammar.specs.Spelling.{that_text}
use Rattle.wast_grammar.specs.Grammar.{one_of}
use Rattle.wast_parser_core.specs.Reading.{ShowsNext}
use Rattle.wast_parser_core.proofs.Texts.{not_string, read_string}
use Rattle.wast_parser_core.proofs.parser.Parser.string.Goals.{in_default-via-in-Some+else-is_string, in_default-via-in_default}
use Rattle.wast_parser_core.proofs.parser.Parser.string.Goals as goal

pub returns-in_default-clause-read : goal.returns-in_default-clause-read
returns-in_default-clause-read c =
    let s = c.args.self.now in
    inr (elim c.in_default.branch [
      | in_default-via-in-Some+else-is_string w ↦
          let next = subst (λ o. ShowsNext (Ok o) s) w.in-Some.is c.in_ok-token.ensures in
          not_string s w.in-Some.token w.in-Some.after next (sym w.is_string.ensures.same ∙ w.if-is_string.false)
      | in_default-via-in_default w ↦ (let none = subst (λ o. ShowsNext (Ok o) s) w.in_default.is c.in_ok-token.ensures in ap (one_of that_text) none)
    ])

pub returns-in_ok-bytes-in-Some-clause-read : goal.returns-in_ok-bytes-in-Some-clause-read
returns-in_ok-bytes-in-Some-clause-read c =
    let s = c.args.self.now in
    let t = c.in-Some.token in
    let i = c.in-Some.after in
    let next = subst (λ o. ShowsNext (Ok o) s) c.in-Some.is c.in_ok-token.ensures in
    let bytes = c.in_ok-bytes-in-Some.bytes in
    let is = subst (λ x. IsString (text_of x t) bytes) c.text.ensures c.in_ok-bytes-in-Some.ensures.value in
    read_string s t i next (sym c.is_string.ensures.same ∙ c.if-is_string.true)
    ∙ ap (λ v. Some (v, ahead (record s { at = i }))) (string_is (text_of s.source.text t) bytes is)
    ∙ ap (λ (z : State). Some (bytes, ahead (record z { at = i }))) (sym c.self.view_is)
