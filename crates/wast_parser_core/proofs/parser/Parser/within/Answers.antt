use Rattle.std.proofs.Common.{rules, refl, inr, Ok, Err}
use Rattle.wast_parser_core.specs.State.{Keeps}
use Rattle.wast_parser_core.specs.Reading.{Enters}
use Rattle.wast_parser_core.proofs.States.{keeps_in, keeps_trans}
use Rattle.wast_parser_core.proofs.Fronts.{opened, closed}
use Rattle.wast_parser_core.proofs.parser.Parser.within.Goals as goal

pub returns-in-Err-clause-keeps : goal.returns-in-Err-clause-keeps
returns-in-Err-clause-keeps g c =
    let q : Keeps c.open.new.self c.f.new.arg2 = c.requires.keeps c.open.new.self c.f.new.arg2 c.f.result (search rules) in
    keeps_in _ _ _ c.in_ok-open.ensures.ok c.open.ensures.onward c.open.ensures.tight q

pub returns-in-Err-clause-why : goal.returns-in-Err-clause-why
returns-in-Err-clause-why g c =
    let enters : Enters c.args.self.now c.open.new.self = record { place = c.in_ok-open.field-0; opens = opened _ _ _ c.in_ok-open.ensures.read; deeper = c.in_ok-open.ensures.ok; tight = c.open.ensures.tight } in
    inr (c.open.new.self, c.f.new.arg2, Err c.in-Err.e, enters, search rules, refl)

pub returns-in-Err-close-clause-keeps : goal.returns-in-Err-close-clause-keeps
returns-in-Err-close-clause-keeps g c =
    let q : Keeps c.open.new.self c.f.new.arg2 = c.requires.keeps c.open.new.self c.f.new.arg2 c.f.result (search rules) in
    keeps_in _ _ _ c.in_ok-open.ensures.ok c.open.ensures.onward c.open.ensures.tight (keeps_trans _ _ _ q c.close.ensures.keeps)

pub returns-in-Err-close-clause-why : goal.returns-in-Err-close-clause-why
returns-in-Err-close-clause-why g c =
    let enters : Enters c.args.self.now c.open.new.self = record { place = c.in_ok-open.field-0; opens = opened _ _ _ c.in_ok-open.ensures.read; deeper = c.in_ok-open.ensures.ok; tight = c.open.ensures.tight } in
    inr (c.open.new.self, c.f.new.arg2, Ok c.in-Ok.value, enters, search rules, c.in-Err-close.ensures.exact)

pub returns-in-Ok-close-clause-keeps : goal.returns-in-Ok-close-clause-keeps
returns-in-Ok-close-clause-keeps g c =
    let q : Keeps c.open.new.self c.f.new.arg2 = c.requires.keeps c.open.new.self c.f.new.arg2 c.f.result (search rules) in
    keeps_in _ _ _ c.in_ok-open.ensures.ok c.open.ensures.onward c.open.ensures.tight (keeps_trans _ _ _ q c.close.ensures.keeps)

pub returns-in-Ok-close-clause-ok : goal.returns-in-Ok-close-clause-ok
returns-in-Ok-close-clause-ok g c =
    let enters : Enters c.args.self.now c.open.new.self = record { place = c.in_ok-open.field-0; opens = opened _ _ _ c.in_ok-open.ensures.read; deeper = c.in_ok-open.ensures.ok; tight = c.open.ensures.tight } in
    (c.open.new.self, c.f.new.arg2, enters, search rules, (_, closed _ _ _ c.in-Ok-close.ensures.read))
