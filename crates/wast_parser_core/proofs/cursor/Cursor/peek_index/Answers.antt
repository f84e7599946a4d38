use Rattle.std.proofs.Common.{subst, sym, ◌∙◌, ap, Ok, Some}
use Rattle.wast_parser_core.specs.Cursors.{stands, GivesToken}
use Rattle.wast_parser_core.proofs.IndexLooks.{asked_index}
use Rattle.wast_parser_core.proofs.cursor.Cursor.peek_index.Goals as goal

pub returns-in-Some : goal.returns-in-Some
returns-in-Some c =
    let next = subst (λ o. GivesToken (Ok o) c.args.self) c.in-Some.is c.in_ok-token.ensures in
    asked_index (stands c.args.self) c.in-Some.token _ next.0 ∙ ap Some (sym c.is_index.ensures)
