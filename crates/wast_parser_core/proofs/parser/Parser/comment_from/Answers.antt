use Rattle.std.proofs.Common.{◌∙◌, sym, ap, subst, arith, ◌&&◌}
use Rattle.std.specs.Prelude.{slice_get, is_some}
use Rattle.std.proofs.lemmas.Option.{slice_get_within}
use Rattle.wast_lexer.specs.TokenText.{IsOf}
use Rattle.wast_parser_core.specs.State.{State}
use Rattle.wast_parser_core.specs.Reading.{IsStop}
use Rattle.wast_parser_core.proofs.Comments.{passed, passed_blank, found, another, not_blank, none_left, all_blank}
use Rattle.wast_parser_core.proofs.parser.Parser.comment_from.Goals as goal

pub tokens-preserved : goal.tokens-preserved
tokens-preserved c =
    let s = c.args.self.now in
    let got = ap (λ (s : State). slice_get s.source.tokens c.tokens.at) (sym c.self.view_is) ∙ sym c.in-Some.ensures.token in
    let is = sym c.is_space.ensures ∙ c.if-is_space.true in
    let low = c.tokens.invariant.onward in
    record {
      same = sym (passed s.source.tokens c.tokens.at c.in-Some.token got is) ∙ c.tokens.invariant.same;
      blank_same = sym (passed_blank s.source.tokens c.tokens.at c.in-Some.token got is) ∙ c.tokens.invariant.blank_same;
      onward = omega (arith, low);
    }

pub returns-then-is_comment : goal.returns-then-is_comment
returns-then-is_comment c =
    let s = c.args.self.now in
    let t = c.in-Some.token in
    let got = ap (λ (s : State). slice_get s.source.tokens c.tokens.at) (sym c.self.view_is) ∙ sym c.in-Some.ensures.token in
    let inside = slice_get_within s.source.tokens c.tokens.at t got in
    let low = c.tokens.invariant.onward in (
      sym c.tokens.invariant.same ∙ found s.source.tokens c.tokens.at t got (sym c.is_space.ensures ∙ c.if-is_space.false) (sym c.is_comment.ensures ∙ c.if-is_comment.true),
      subst (λ (s : State). IsOf s.source.text t) c.self.view_is c.in-Some.ensures.own,
      omega (arith, low),
      omega (arith, inside),
    )

pub returns-else-is_comment : goal.returns-else-is_comment
returns-else-is_comment c =
    let s = c.args.self.now in
    let t = c.in-Some.token in
    let got = ap (λ (s : State). slice_get s.source.tokens c.tokens.at) (sym c.self.view_is) ∙ sym c.in-Some.ensures.token in
    let space = sym c.is_space.ensures ∙ c.if-is_space.false in (
      sym c.tokens.invariant.same ∙ another s.source.tokens c.tokens.at t got space (sym c.is_comment.ensures ∙ c.if-is_comment.false),
      ap (λ b. b && is_some s.source.fault) (sym c.tokens.invariant.blank_same ∙ not_blank s.source.tokens c.tokens.at t got space),
    )

pub returns-then-is_some : goal.returns-then-is_some
returns-then-is_some c =
    let s = c.args.self.now in
    let got = ap (λ (s : State). slice_get s.source.tokens c.tokens.at) (sym c.self.view_is) ∙ sym c.in_default.ensures.token in
    let fault = ap (λ (s : State). is_some s.source.fault) (sym c.self.view_is) ∙ ap is_some (sym c.fault.ensures) ∙ sym c.is_some.ensures ∙ c.if-is_some.true in (
      ap (λ b. b && is_some s.source.fault) (sym c.tokens.invariant.blank_same ∙ all_blank s.source.tokens c.tokens.at got) ∙ fault,
      subst (λ (z : State). IsStop c.stopped.result z.source) c.self.view_is c.stopped.ensures,
    )

pub returns : goal.returns
returns c =
    let s = c.args.self.now in
    let got = ap (λ (s : State). slice_get s.source.tokens c.tokens.at) (sym c.self.view_is) ∙ sym c.in_default.ensures.token in
    let fault = ap (λ (s : State). is_some s.source.fault) (sym c.self.view_is) ∙ ap is_some (sym c.fault.ensures) ∙ sym c.is_some.ensures ∙ c.if-is_some.false in (
      sym c.tokens.invariant.same ∙ none_left s.source.tokens c.tokens.at got,
      ap (λ b. b && is_some s.source.fault) (sym c.tokens.invariant.blank_same ∙ all_blank s.source.tokens c.tokens.at got) ∙ fault,
    )
