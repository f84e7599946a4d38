use Rattle.std.proofs.Common.{◌+◌, ◌∙◌, ◌&&◌, All, ap, subst, sym}
use Rattle.wast_lexer.specs.TokenText.{IsOf}
use Rattle.wast_grammar.specs.Significant.{begins_unknown, is_lparen, is_trivia}
use Rattle.wast_parser_core.specs.State.{State}
use Rattle.wast_parser_core.proofs.Ahead.{lexemes}
use Rattle.wast_parser_core.proofs.Shown.{kind_at, of_kind, all_at, shown_from}
use Rattle.wast_parser_core.proofs.parser.Parser.front.Goals as goal

pub returns-in-Some-clause-front : goal.returns-in-Some-clause-front
returns-in-Some-clause-front c =
    let s = c.args.self.now in
    let b = c.behind_space-at in
    let i = b.result in
    let found = of_kind s.source.tokens i c.in-Some.kind (ap (λ (s : State). kind_at s i) (sym c.self.view_is) ∙ sym c.in-Some.ensures.kind) in
    let t = found.0 in
    let kept = ap (λ k. is_lparen k && begins_unknown s.names (lexemes s (i + 1))) found.2 ∙ sym c.opens_dropped.ensures ∙ c.if-not-opens_dropped.true in
    let seen = ap is_trivia found.2 ∙ sym c.is_trivia.ensures ∙ c.if-not-is_trivia.true in
    let own = subst (λ (z : State). All (IsOf z.source.text) z.source.tokens) c.self.view_is c.in-Some.ensures.own in
    (t, found.1, found.2, shown_from s c.args.from i t b.ensures.same b.ensures.onward b.ensures.outside found.1 kept seen (all_at (IsOf s.source.text) s.source.tokens i t own found.1))
