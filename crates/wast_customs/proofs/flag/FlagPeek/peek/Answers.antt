use Rattle.std.proofs.Common.{false, [], ◌∷◌, map, refl, sym, ◌∙◌, ap, Some, subst}
use Rattle.wast_parser.specs.Look.{On, AnInteger, AWord, OneOf, Any}
use Rattle.wast_parser.specs.State.{ahead}
use Rattle.wast_parser.specs.Reading.{Asks}
use Rattle.wast_parser.specs.Cursors.{stands}
use Rattle.wast_customs.specs.DylinkSyntax.{flag_word, symbol_flags}
use Rattle.wast_customs.proofs.Looks.{asks_first, asks_others, asks_fault}
use Rattle.wast_customs.proofs.flag.FlagPeek.peek.Goals as goal

pub returns-in-Ok-true : goal.returns-in-Ok-true
returns-in-Ok-true c = asks_first (On false AnInteger Any) (On false AWord (OneOf (map flag_word symbol_flags) []) ∷ []) (ahead (stands c.args.cursor)) refl (c.in-Ok-true.ensures ∙ ap Some c.in-Ok-true.field-0-test)

pub returns-in-Ok-false : goal.returns-in-Ok-false
returns-in-Ok-false c =
    let asked = asks_others (On false AnInteger Any) (On false AWord (OneOf (map flag_word symbol_flags) []) ∷ []) (ahead (stands c.args.cursor)) refl refl (c.in-Ok-false.ensures ∙ ap Some c.in-Ok-false.field-0-test) in
    subst (Asks c.peek_among.result c.args.cursor.parser.now.source) (sym asked) c.peek_among.ensures

pub returns-in-Err : goal.returns-in-Err
returns-in-Err c = (asks_fault (On false AnInteger Any) (On false AWord (OneOf (map flag_word symbol_flags) []) ∷ []) (ahead (stands c.args.cursor)) refl c.in-Err.ensures.0, c.in-Err.ensures.1)
