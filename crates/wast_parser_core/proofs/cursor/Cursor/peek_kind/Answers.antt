use Rattle.std.proofs.Common.{subst, sym, ◌∙◌, ap, Ok, Some, false, [], ◌∷◌}
use Rattle.wast_grammar.specs.Look.{ask, On, Any}
use Rattle.wast_parser_core.specs.Kinds.{wanted}
use Rattle.wast_parser_core.specs.Cursors.{stands, GivesToken}
use Rattle.wast_parser_core.proofs.Wants.{asked_shape, asked_none}
use Rattle.wast_parser_core.proofs.cursor.Cursor.peek_kind.Goals as goal

pub returns-in-Some : goal.returns-in-Some
returns-in-Some c =
    let next = subst (λ o. GivesToken (Ok o) c.args.self) c.in-Some.is c.in_ok-token.ensures in
    asked_shape (stands c.args.self) c.in-Some.token _ c.args.want next.0 ∙ ap Some (sym c.is_wanted.ensures)

pub returns-in-None : goal.returns-in-None
returns-in-None c = ap (ask (On false (wanted c.args.want) Any ∷ [])) (subst (λ o. GivesToken (Ok o) c.args.self) c.in-None.is c.in_ok-token.ensures) ∙ asked_none c.args.want
