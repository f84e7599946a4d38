use Rattle.std.proofs.Common.{◌≤◌, ◌≢◌, [], subst, sym, ◌∙◌, ap, Ok, Some, inl, arith}
use Rattle.std.specs.Prelude.{option_map}
use Rattle.std.specs.Str.{IsUtf8}
use Rattle.std.specs.Cow.{cow_str_bytes}
use Rattle.wast_lexer.specs.Kinds.{IsIdOf}
use Rattle.wast_lexer.specs.TokenText.{text_of, IsIdFault}
use Rattle.wast_grammar.specs.Tokens.{as_read, id_name}
use Rattle.wast_grammar.proofs.TextLaws.{id_named}
use Rattle.wast_parser_core.proofs.Texts.{is_id}
use Rattle.wast_parser_core.specs.Kinds.{wanted}
use Rattle.wast_parser_core.specs.State.{State, ahead, slack}
use Rattle.wast_parser_core.specs.Cursors.{stands, FindsKind}
use Rattle.wast_parser_core.specs.declared.kind.Wanted.TheVariants.{Id}
use Rattle.wast_parser_core.proofs.Wants.{next_id, no_id, identifier}
use Rattle.wast_parser_core.proofs.cursor.Cursor.id.Goals as goal

pub returns-in-Ok : goal.returns-in-Ok
returns-in-Ok c =
    let s = stands c.args.self in
    let t = c.in-Some.token in
    let d = c.in-Some.rest in
    let next = subst (λ o. FindsKind (wanted Id) c.args.self (Ok o)) c.in-Some.is c.in_ok-token.ensures in
    let bytes = cow_str_bytes c.in-Ok.name in
    let is = subst (λ x. IsIdOf (text_of x t) bytes × (bytes ≢ []) × IsUtf8 bytes) c.text.ensures c.in-Ok.ensures.ok in
    let low = next.0.onward in (
      next_id s t d.at next.0 next.2
          ∙ ap (λ (z : State). Some (option_map as_read (id_name (text_of s.source.text t)), ahead (record z { at = d.at }))) (sym next.1)
          ∙ ap (λ w. Some (option_map as_read w, ahead (stands d))) ((id_named (text_of s.source.text t) bytes (is_id s.source.text t next.0.own (identifier t.kind next.2))).1 is),
      record { same = next.1; onward = omega (arith, low) },
      subst (λ (z : State). slack (record z { at = d.at }) ≤ slack s) (sym next.1) next.0.tight,
    )

pub returns-in-Err : goal.returns-in-Err
returns-in-Err c =
    let t = c.in-Some.token in
    let d = c.in-Some.rest in
    let next = subst (λ o. FindsKind (wanted Id) c.args.self (Ok o)) c.in-Some.is c.in_ok-token.ensures in
    let why = subst (λ x. IsIdFault (text_of x t) t.offset c.in-Err.fault) c.text.ensures c.in-Err.ensures.err in
    inl (t, d.at, c.in-Err.fault, next.0, identifier t.kind next.2, why, c.from_fault.ensures)

pub returns-in-None : goal.returns-in-None
returns-in-None c =
    let none = subst (λ o. FindsKind (wanted Id) c.args.self (Ok o)) c.in-None.is c.in_ok-token.ensures in
    (no_id _ none.0, none.1)
