use Rattle.std.proofs.Common.{subst, sym, ◌∙◌, ap, Ok}
use Rattle.wast_grammar.specs.Look.{ask}
use Rattle.wast_parser_core.specs.State.{State, ahead, past}
use Rattle.wast_parser_core.specs.Cursors.{stands, GivesToken}
use Rattle.wast_parser_core.proofs.States.{asks_so}
use Rattle.wast_parser_core.proofs.Fronts.{past_next}
use Rattle.wast_parser_core.proofs.parser.Parser.peek3.Goals as goal

pub returns-in-Some : goal.returns-in-Some
returns-in-Some g c =
    let next = subst (λ o. GivesToken (Ok o) c.cursor-cursor.result) c.in-Some.is c.in_ok-rest.ensures in
    let same = ap (λ (s : State). ahead (record s { at = c.in-Some.rest.at })) next.1 in
    let t = g.T.Meaning in
    let cursor = c.cursor-cursor.result in
    let behind = same ∙ sym (past_next (stands cursor) c.in-Some.field-0-0 c.in-Some.rest.at next.0) ∙ ap (λ s. past (ahead s)) c.cursor-cursor.ensures in
    asks_so c.peek2.result _ _ _ _ (ap (λ (s : State). s.source) next.1 ∙ ap (λ (s : State). s.source) c.cursor-cursor.ensures) (ap (λ ts. ask t.syntax.starts (past ts)) behind) c.peek2.ensures
