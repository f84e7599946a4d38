use Rattle.std.proofs.Common.{sym, ◌∙◌, ap, List, ℕ, map, not, Bor}
use Rattle.std.specs.Prelude.{slice_get}
use Rattle.wast_lexer.specs.TokenText.{text_of}
use Rattle.wast_grammar.specs.Tokens.{marked_value}
use Rattle.wast_grammar.specs.Spelling.{any_is}
use Rattle.wast_parser_core.specs.State.{State}
use Rattle.wast_parser_core.proofs.Names.{drops_mark, drops_other, drops_none}
use Rattle.wast_parser_core.proofs.parser.Parser.drops.Goals as goal

pub returns-in-Some : goal.returns-in-Some
returns-in-Some c =
    let s = c.args.self.now in
    let t = c.in-Some.token in
    let got = ap (λ (s : State). slice_get s.source.tokens c.args.at) (sym c.self.view_is) ∙ sym c.in-Some.ensures.token in
    let text = c.text.ensures ∙ ap (λ (s : State). s.source.text) c.self.view_is in
    ap not (c.is_registered.ensures
    ∙ ap (λ x. any_is (marked_value (text_of x t)) (map (λ (n : Bor (List ℕ)). n.now) c.as_slice.result.now)) text
    ∙ ap (λ ns. any_is (marked_value (text_of s.source.text t)) (map (λ (n : Bor (List ℕ)). n.now) ns)) c.as_slice.ensures.value
    ∙ ap (λ (z : State). any_is (marked_value (text_of s.source.text t)) z.names) c.self.view_is)
    ∙ drops_mark s c.args.at t got (c.is_annotation.ensures.is c.if-is_annotation.true)

pub returns-in_default : goal.returns-in_default
returns-in_default c =
    let s = c.args.self.now in
    let got = ap (λ (s : State). slice_get s.source.tokens c.args.at) (sym c.self.view_is) ∙ sym c.in-Some.ensures.token in
    drops_other s c.args.at c.in-Some.token got (sym c.is_annotation.ensures.same ∙ c.if-is_annotation.false)

pub returns-in_default-2 : goal.returns-in_default-2
returns-in_default-2 c =
    let s = c.args.self.now in
    drops_none s c.args.at (ap (λ (s : State). slice_get s.source.tokens c.args.at) (sym c.self.view_is) ∙ sym c.in_default.ensures.token)
