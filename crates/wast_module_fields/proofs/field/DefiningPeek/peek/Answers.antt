use Rattle.std.proofs.Common.{[], ◌∷◌, map, subst}
use Rattle.wast_parser.specs.State.{ahead}
use Rattle.wast_parser.specs.Reading.{Asks}
use Rattle.wast_parser.specs.Cursors.{stands}
use Rattle.wast_exports.specs.Exports.{Func, Table, Memory, Global, Tag, export_word}
use Rattle.wast_module_fields.proofs.Grouped.{asked_as_one}
use Rattle.wast_module_fields.proofs.field.DefiningPeek.peek.Goals as goal

pub returns : goal.returns
returns c =
    let behind = map export_word (Table ∷ Memory ∷ Global ∷ Tag ∷ []) in
    subst (Asks c.peek_group_among.result (stands c.args.cursor).source) (asked_as_one (export_word Func) behind [] (ahead (stands c.args.cursor))) c.peek_group_among.ensures
