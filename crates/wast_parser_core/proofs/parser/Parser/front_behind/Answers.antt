use Rattle.std.proofs.Common.{◌+◌, ◌∙◌, sym, ap, subst, arith, ◌&&◌, ℕ, All}
use Rattle.std.specs.Prelude.{is_some}
use Rattle.std.proofs.lemmas.Bool.{and_parts}
use Rattle.wast_lexer.specs.Groups.{parens, IsGroupAt}
use Rattle.wast_lexer.specs.TokenText.{IsOf}
use Rattle.wast_grammar.specs.Significant.{begins_unknown, is_lparen, is_trivia}
use Rattle.wast_parser_core.specs.State.{State}
use Rattle.wast_grammar.proofs.SignificantLaws.{lparen_kind}
use Rattle.wast_parser_core.proofs.Ahead.{lexemes, ahead_trivia, ahead_group, ahead_open, ahead_end, end_broken, end_whole}
use Rattle.wast_parser_core.proofs.Standing.{past_trivia, past_group}
use Rattle.wast_parser_core.proofs.Shown.{kind_at, of_kind, none_of_kind, all_at, shown_from}
use Rattle.wast_parser_core.proofs.parser.Parser.front_behind.Goals as goal

pub tokens-preserved-then-is_trivia : goal.tokens-preserved-then-is_trivia
tokens-preserved-then-is_trivia c =
    let s = c.args.self.now in
    let t = of_kind s.source.tokens c.tokens.at c.in-Some.kind (ap (λ (s : State). kind_at s c.tokens.at) (sym c.self.view_is) ∙ sym c.in-Some.ensures.kind) in
    let low = c.tokens.invariant.onward in
    record { same = sym (ahead_trivia s c.tokens.at t.0 t.1 (ap is_trivia t.2 ∙ sym c.is_trivia.ensures ∙ c.if-is_trivia.true)) ∙ c.tokens.invariant.same; onward = omega (arith, low); outside = λ o. past_trivia s c.tokens.at t.0 t.1 (ap is_trivia t.2 ∙ sym c.is_trivia.ensures ∙ c.if-is_trivia.true) (c.tokens.invariant.outside o) }

pub returns-in-None-clause-front : goal.returns-in-None-clause-front
returns-in-None-clause-front c =
    let s = c.args.self.now in
    let i = c.tokens.at in
    let t = of_kind s.source.tokens i c.in-Some.kind (ap (λ (s : State). kind_at s i) (sym c.self.view_is) ∙ sym c.in-Some.ensures.kind) in
    let group = and_parts (is_lparen c.in-Some.kind) (begins_unknown s.names (lexemes s (i + 1))) (sym c.opens_dropped.ensures ∙ c.if-opens_dropped.true) in
    let is = lparen_kind t.0.kind (ap is_lparen t.2 ∙ group.0) in
    let d = group.1 in
    let none = subst (λ (s : State). (end : ℕ) → ¬ IsGroupAt (parens s.source.tokens) i end) c.self.view_is c.in-None.ensures.group in
    sym c.tokens.invariant.same ∙ ahead_open s i t.0 t.1 is d none

pub tokens-preserved : goal.tokens-preserved
tokens-preserved c =
    let s = c.args.self.now in
    let i = c.tokens.at in
    let t = of_kind s.source.tokens i c.in-Some.kind (ap (λ (s : State). kind_at s i) (sym c.self.view_is) ∙ sym c.in-Some.ensures.kind) in
    let group = and_parts (is_lparen c.in-Some.kind) (begins_unknown s.names (lexemes s (i + 1))) (sym c.opens_dropped.ensures ∙ c.if-opens_dropped.true) in
    let is = lparen_kind t.0.kind (ap is_lparen t.2 ∙ group.0) in
    let d = group.1 in
    let g = subst (λ (s : State). IsGroupAt (parens s.source.tokens) i c.in-Some-group_end.end) c.self.view_is c.in-Some-group_end.ensures.group in
    let low = c.tokens.invariant.onward in
    record { same = sym (ahead_group s i c.in-Some-group_end.end t.0 t.1 is d g) ∙ c.tokens.invariant.same; onward = omega (arith, low, g.end_is); outside = λ o. past_group s i c.in-Some-group_end.end t.0 t.1 is d g (c.tokens.invariant.outside o) }

pub returns-else-opens_dropped-clause-front : goal.returns-else-opens_dropped-clause-front
returns-else-opens_dropped-clause-front c =
    let s = c.args.self.now in
    let i = c.tokens.at in
    let found = of_kind s.source.tokens i c.in-Some.kind (ap (λ (s : State). kind_at s i) (sym c.self.view_is) ∙ sym c.in-Some.ensures.kind) in
    let t = found.0 in
    let low = c.tokens.invariant.onward in
    let kept = ap (λ k. is_lparen k && begins_unknown s.names (lexemes s (i + 1))) found.2 ∙ sym c.opens_dropped.ensures ∙ c.if-opens_dropped.false in
    let seen = ap is_trivia found.2 ∙ sym c.is_trivia.ensures ∙ c.if-is_trivia.false in
    let own = subst (λ (z : State). All (IsOf z.source.text) z.source.tokens) c.self.view_is c.in-Some.ensures.own in
    (t, found.1, found.2, shown_from s c.args.from i t c.tokens.invariant.same low c.tokens.invariant.outside found.1 kept seen (all_at (IsOf s.source.text) s.source.tokens i t own found.1))

pub returns-then-is_some-clause-front : goal.returns-then-is_some-clause-front
returns-then-is_some-clause-front c =
    let s = c.args.self.now in
    let none = none_of_kind s.source.tokens c.tokens.at (ap (λ (s : State). kind_at s c.tokens.at) (sym c.self.view_is) ∙ sym c.in_default.ensures.kind) in
    let fault = ap (λ (s : State). is_some s.source.fault) (sym c.self.view_is) ∙ ap is_some (sym c.fault.ensures) ∙ sym c.is_some.ensures ∙ c.if-is_some.true in
    sym c.tokens.invariant.same ∙ ahead_end s c.tokens.at none ∙ end_broken s.source.fault fault

pub returns-clause-front : goal.returns-clause-front
returns-clause-front c =
    let s = c.args.self.now in
    let none = none_of_kind s.source.tokens c.tokens.at (ap (λ (s : State). kind_at s c.tokens.at) (sym c.self.view_is) ∙ sym c.in_default.ensures.kind) in
    sym c.tokens.invariant.same ∙ ahead_end s c.tokens.at none ∙ end_whole s.source.fault (ap (λ (s : State). is_some s.source.fault) (sym c.self.view_is) ∙ ap is_some (sym c.fault.ensures) ∙ sym c.is_some.ensures ∙ c.if-is_some.false)
