use Rattle.std.proofs.Common.{subst, sym, ◌∙◌, ap, Ok}
use Rattle.wast_grammar.specs.Look.{ask}
use Rattle.wast_parser_core.specs.State.{State, ahead}
use Rattle.wast_parser_core.specs.Cursors.{stands, GivesToken}
use Rattle.wast_parser_core.proofs.States.{asks_so}
use Rattle.wast_parser_core.proofs.Fronts.{past_next}
use Rattle.wast_parser_core.proofs.meaning.Peek.peek2.Goals as goal

pub returns-in-Some : goal.returns-in-Some
returns-in-Some g c =
    let next = subst (λ o. GivesToken (Ok o) c.args.cursor) c.in-Some.is c.in_ok-rest.ensures in
    let same = ap (λ (s : State). ahead (record s { at = c.in-Some.rest.at })) next.1 in
    let behind = same ∙ sym (past_next (stands c.args.cursor) c.in-Some.field-0-0 c.in-Some.rest.at next.0) in
    asks_so c.peek.result _ _ _ _ (ap (λ (s : State). s.source) next.1) (ap (ask g.Self.Meaning.syntax.starts) behind) c.peek.ensures
