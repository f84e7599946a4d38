use Rattle.std.proofs.Common.{◌≤◌, subst, sym, ◌∙◌, ap, Ok, Some, arith}
use Rattle.wast_lexer.specs.Strings.{IsString}
use Rattle.wast_lexer.specs.TokenText.{text_of}
use Rattle.wast_grammar.specs.Tokens.{string_value}
use Rattle.wast_grammar.proofs.TextLaws.{string_is}
use Rattle.wast_parser_core.specs.Kinds.{wanted}
use Rattle.wast_parser_core.specs.State.{State, ahead, slack}
use Rattle.wast_parser_core.specs.Cursors.{stands, FindsKind}
use Rattle.wast_parser_core.specs.declared.kind.Wanted.TheVariants.{String}
use Rattle.wast_parser_core.proofs.Wants.{next_text, no_text}
use Rattle.wast_parser_core.proofs.cursor.Cursor.string.Goals as goal

pub returns-in_ok-bytes-in-Some : goal.returns-in_ok-bytes-in-Some
returns-in_ok-bytes-in-Some c =
    let s = stands c.args.self in
    let t = c.in-Some.token in
    let d = c.in-Some.rest in
    let next = subst (λ o. FindsKind (wanted String) c.args.self (Ok o)) c.in-Some.is c.in_ok-token.ensures in
    let bytes = c.in_ok-bytes-in-Some.bytes in
    let is = subst (λ x. IsString (text_of x t) bytes) c.text.ensures c.in_ok-bytes-in-Some.ensures.value in
    let low = next.0.onward in (
      next_text s t d.at next.0 next.2
          ∙ ap (λ (z : State). Some (string_value (text_of s.source.text t), ahead (record z { at = d.at }))) (sym next.1)
          ∙ ap (λ w. Some (w, ahead (stands d))) (string_is (text_of s.source.text t) bytes is),
      record { same = next.1; onward = omega (arith, low) },
      subst (λ (z : State). slack (record z { at = d.at }) ≤ slack s) (sym next.1) next.0.tight,
    )

pub returns-in-None : goal.returns-in-None
returns-in-None c =
    let none = subst (λ o. FindsKind (wanted String) c.args.self (Ok o)) c.in-None.is c.in_ok-token.ensures in
    (no_text _ none.0, none.1)
