use Rattle.std.proofs.Common.{subst, sym, ◌∙◌, ap, Ok, inr, Some, ◌≢◌, []}
use Rattle.wast_grammar.specs.Tokens.{as_read}
use Rattle.std.specs.Str.{IsUtf8}
use Rattle.std.specs.Cow.{cow_str_bytes}
use Rattle.wast_lexer.specs.Kinds.{IsIdOf}
use Rattle.wast_lexer.specs.TokenText.{text_of, IsIdFault}
use Rattle.wast_grammar.specs.Grammar.{one_of}
use Rattle.wast_grammar.specs.Spelling.{that_id}
use Rattle.wast_grammar.proofs.TextLaws.{id_named}
use Rattle.wast_parser_core.specs.State.{State, ahead}
use Rattle.wast_parser_core.specs.Reading.{ShowsNext, Refuses}
use Rattle.wast_parser_core.proofs.Texts.{is_id, read_id, not_id, id_refused, id_unread}
use Rattle.wast_parser_core.proofs.parser.Parser.id.Goals.{in_default-via-in-Some+else-is_id, in_default-via-in_default}
use Rattle.wast_parser_core.proofs.parser.Parser.id.Goals as goal

pub returns-in-Ok-clause-read : goal.returns-in-Ok-clause-read
returns-in-Ok-clause-read c =
    let s = c.args.self.now in
    let t = c.in-Some.token in
    let i = c.in-Some.after in
    let bytes = cow_str_bytes c.in-Ok.name in
    let next = subst (λ o. ShowsNext (Ok o) s) c.in-Some.is c.in_ok-token.ensures in
    let kind = sym c.is_id.ensures.same ∙ c.if-is_id.true in
    let name = (id_named (text_of s.source.text t) bytes (is_id s.source.text t next.own kind)).1 (subst (λ x. IsIdOf (text_of x t) bytes × (bytes ≢ []) × IsUtf8 bytes) c.text.ensures c.in-Ok.ensures.ok) in
    read_id s t i (Some bytes) next kind name
    ∙ ap (λ o. Some ((as_read bytes, o), ahead (record s { at = i }))) (sym c.from_offset.ensures)
    ∙ ap (λ (z : State). Some ((as_read bytes, c.from_offset.result), ahead (record z { at = i }))) (sym c.self.view_is)

pub returns-in-Err-clause-read : goal.returns-in-Err-clause-read
returns-in-Err-clause-read c =
    let s = c.args.self.now in
    let t = c.in-Some.token in
    let next = subst (λ o. ShowsNext (Ok o) s) c.in-Some.is c.in_ok-token.ensures in
    let fault = subst (λ x. IsIdFault (text_of x t) t.offset c.in-Err.fault) c.text.ensures c.in-Err.ensures.err in
    subst (λ p. Refuses p (one_of that_id (ahead s))) (sym c.from_fault.ensures) (id_refused s t c.in-Some.after c.in-Err.fault next (sym c.is_id.ensures.same ∙ c.if-is_id.true) fault)

pub returns-in-Err-clause-exact : goal.returns-in-Err-clause-exact
returns-in-Err-clause-exact c =
    let s = c.args.self.now in
    let t = c.in-Some.token in
    let next = subst (λ o. ShowsNext (Ok o) s) c.in-Some.is c.in_ok-token.ensures in
    id_unread s t c.in-Some.after c.in-Err.fault next (sym c.is_id.ensures.same ∙ c.if-is_id.true) (subst (λ x. IsIdFault (text_of x t) t.offset c.in-Err.fault) c.text.ensures c.in-Err.ensures.err)

pub returns-in_default-clause-read : goal.returns-in_default-clause-read
returns-in_default-clause-read c =
    let s = c.args.self.now in
    inr (elim c.in_default.branch [
      | in_default-via-in-Some+else-is_id w ↦
          let next = subst (λ o. ShowsNext (Ok o) s) w.in-Some.is c.in_ok-token.ensures in
          not_id s w.in-Some.token w.in-Some.after next (sym w.is_id.ensures.same ∙ w.if-is_id.false)
      | in_default-via-in_default w ↦ (let none = subst (λ o. ShowsNext (Ok o) s) w.in_default.is c.in_ok-token.ensures in ap (one_of that_id) none)
    ])
