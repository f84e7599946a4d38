use Rattle.std.proofs.Common.{subst, sym, ◌∙◌, ap, Ok}
use Rattle.wast_grammar.specs.Look.{same_shape}
use Rattle.wast_parser_core.specs.Kinds.{wanted, front_shape}
use Rattle.wast_parser_core.specs.Reading.{is_stuck}
use Rattle.wast_parser_core.specs.Cursors.{stands, GivesToken}
use Rattle.wast_parser_core.proofs.Wants.{shape_next, not_stuck, wanted_end}
use Rattle.wast_parser_core.proofs.cursor.Cursor.take.Goals.{in_default-via-in-Some+else-is_wanted, in_default-via-in_default}
use Rattle.wast_parser_core.proofs.cursor.Cursor.take.Goals as goal

pub returns-in-Some : goal.returns-in-Some
returns-in-Some c =
    let next = subst (λ o. GivesToken (Ok o) c.args.self) c.in-Some.is c.in_ok-token.ensures in
    (next.0, next.1, sym c.is_wanted.ensures ∙ c.if-is_wanted.true)

pub returns-in_default : goal.returns-in_default
returns-in_default c =
    let s = stands c.args.self in
    let shape = wanted c.args.want in
    elim c.in_default.branch [
      | in_default-via-in-Some+else-is_wanted w ↦
          let next = subst (λ o. GivesToken (Ok o) c.args.self) w.in-Some.is c.in_ok-token.ensures in
          (ap (same_shape shape) (shape_next s w.in-Some.token w.in-Some.rest.at next.0) ∙ sym w.is_wanted.ensures ∙ w.if-is_wanted.false, not_stuck s w.in-Some.token w.in-Some.rest.at next.0)
      | in_default-via-in_default w ↦
          let none = subst (λ o. GivesToken (Ok o) c.args.self) w.in_default.is c.in_ok-token.ensures in
          (ap (λ ts. same_shape shape (front_shape ts)) none ∙ wanted_end c.args.want, ap is_stuck none)
    ]
