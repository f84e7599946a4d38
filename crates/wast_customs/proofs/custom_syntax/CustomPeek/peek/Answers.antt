use Rattle.std.proofs.Common.{[], ◌∷◌, refl, sym, ◌∙◌, ap, Some, subst}
use Rattle.std.specs.Prelude.{codes}
use Rattle.wast_parser.specs.Look.{this_annotation}
use Rattle.wast_parser.specs.State.{ahead}
use Rattle.wast_parser.specs.Reading.{Asks}
use Rattle.wast_parser.specs.Cursors.{stands}
use Rattle.wast_customs.proofs.Looks.{asks_first, asks_others, asks_fault}
use Rattle.wast_customs.proofs.custom_syntax.CustomPeek.peek.Goals as goal

pub returns-in-Ok-true : goal.returns-in-Ok-true
returns-in-Ok-true c = asks_first (this_annotation (codes "custom")) (this_annotation (codes "producers") ∷ this_annotation (codes "dylink.0") ∷ []) (ahead (stands c.args.cursor)) refl (c.in-Ok-true.ensures ∙ ap Some c.in-Ok-true.field-0-test)

pub returns-in-Ok-false : goal.returns-in-Ok-false
returns-in-Ok-false c =
    let asked = asks_others (this_annotation (codes "custom")) (this_annotation (codes "producers") ∷ this_annotation (codes "dylink.0") ∷ []) (ahead (stands c.args.cursor)) refl refl (c.in-Ok-false.ensures ∙ ap Some c.in-Ok-false.field-0-test) in
    subst (Asks c.peek_tools.result c.args.cursor.parser.now.source) (sym asked) c.peek_tools.ensures

pub returns-in-Err : goal.returns-in-Err
returns-in-Err c = (asks_fault (this_annotation (codes "custom")) (this_annotation (codes "producers") ∷ this_annotation (codes "dylink.0") ∷ []) (ahead (stands c.args.cursor)) refl c.in-Err.ensures.0, c.in-Err.ensures.1)
