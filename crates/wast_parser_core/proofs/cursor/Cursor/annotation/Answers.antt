use Rattle.std.proofs.Common.{◌≤◌, subst, sym, ◌∙◌, ap, Ok, Some, arith}
use Rattle.std.specs.Cow.{cow_str_bytes}
use Rattle.wast_lexer.specs.Kinds.{IsAnnotationOf}
use Rattle.wast_lexer.specs.TokenText.{text_of}
use Rattle.wast_grammar.specs.Tokens.{marked_value}
use Rattle.wast_grammar.proofs.TextLaws.{annotation_is}
use Rattle.wast_parser_core.specs.Kinds.{wanted}
use Rattle.wast_parser_core.specs.State.{State, ahead, slack}
use Rattle.wast_parser_core.specs.Cursors.{stands, FindsKind}
use Rattle.wast_parser_core.specs.declared.kind.Wanted.TheVariants.{Annotation}
use Rattle.wast_parser_core.proofs.Wants.{next_mark, no_mark}
use Rattle.wast_parser_core.proofs.cursor.Cursor.annotation.Goals as goal

pub returns-in_ok-name-in-Some : goal.returns-in_ok-name-in-Some
returns-in_ok-name-in-Some c =
    let s = stands c.args.self in
    let t = c.in-Some.token in
    let d = c.in-Some.rest in
    let next = subst (λ o. FindsKind (wanted Annotation) c.args.self (Ok o)) c.in-Some.is c.in_ok-token.ensures in
    let bytes = cow_str_bytes c.in_ok-name-in-Some.name in
    let is = subst (λ x. IsAnnotationOf (text_of x t) bytes) c.text.ensures c.in_ok-name-in-Some.ensures.ok in
    let low = next.0.onward in (
      next_mark s t d.at next.0 next.2
          ∙ ap (λ (z : State). Some (marked_value (text_of s.source.text t), ahead (record z { at = d.at }))) (sym next.1)
          ∙ ap (λ w. Some (w, ahead (stands d))) (annotation_is (text_of s.source.text t) bytes is),
      record { same = next.1; onward = omega (arith, low) },
      subst (λ (z : State). slack (record z { at = d.at }) ≤ slack s) (sym next.1) next.0.tight,
    )

pub returns-in-None : goal.returns-in-None
returns-in-None c =
    let none = subst (λ o. FindsKind (wanted Annotation) c.args.self (Ok o)) c.in-None.is c.in_ok-token.ensures in
    (no_mark _ none.0, none.1)
