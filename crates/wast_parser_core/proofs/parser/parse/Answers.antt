use Rattle.std.proofs.Common.{◌≡◌, subst, Ok, Some, inr}
use Rattle.wast_parser_core.specs.State.{State, ahead, knowing, KeepsWith}
use Rattle.wast_parser_core.specs.Reading.{ShowsNext}
use Rattle.wast_parser_core.proofs.Fronts.{not_done}
use Rattle.wast_parser_core.proofs.States.{stuck_end}
use Rattle.wast_parser_core.proofs.parser.parse.Goals as goal

pub returns-in-Ok-None-clause-ok : goal.returns-in-Ok-None-clause-ok
returns-in-Ok-None-clause-ok g c =
    let t = g.T.Meaning in
    let new = c.parse.new.parser in (
      new,
      subst (λ (z : State). KeepsWith t.registers z new) c.new-parser.ensures c.in_ok-value.ensures.keeps,
      subst (λ (z : State). t.syntax.reads (ahead (knowing t.registers z)) ≡ Some (t.tree c.in_ok-value.value, ahead (knowing t.registers new))) c.new-parser.ensures c.in_ok-value.ensures.read,
      subst (λ o. ShowsNext (Ok o) new) c.in-Ok-None.field-0-is c.in-Ok-None.ensures,
    )

pub returns-in-Ok-Some-clause-refused : goal.returns-in-Ok-Some-clause-refused
returns-in-Ok-Some-clause-refused g c =
    let t = g.T.Meaning in
    let new = c.parse.new.parser in
    inr (inr (
      t.tree c.in_ok-value.value,
      new,
      subst (λ (z : State). KeepsWith t.registers z new) c.new-parser.ensures c.in_ok-value.ensures.keeps,
      subst (λ (z : State). t.syntax.reads (ahead (knowing t.registers z)) ≡ Some (t.tree c.in_ok-value.value, ahead (knowing t.registers new))) c.new-parser.ensures c.in_ok-value.ensures.read,
      not_done new _ _ (subst (λ o. ShowsNext (Ok o) new) c.in-Ok-Some.field-0-is c.in-Ok-Some.ensures),
    ))

pub returns-clause-refused : goal.returns-clause-refused
returns-clause-refused g c =
    let t = g.T.Meaning in
    let new = c.parse.new.parser in
    inr (inr (
      t.tree c.in_ok-value.value,
      new,
      subst (λ (z : State). KeepsWith t.registers z new) c.new-parser.ensures c.in_ok-value.ensures.keeps,
      subst (λ (z : State). t.syntax.reads (ahead (knowing t.registers z)) ≡ Some (t.tree c.in_ok-value.value, ahead (knowing t.registers new))) c.new-parser.ensures c.in_ok-value.ensures.read,
      stuck_end new c.in-Err.ensures.0,
    ))
