use Rattle.std.proofs.Common.{[], ◌∷◌, refl, subst, codes}
use Rattle.wast_parser.specs.State.{ahead}
use Rattle.wast_parser.specs.Reading.{Asks}
use Rattle.wast_parser.specs.Cursors.{stands}
use Rattle.wast_customs.specs.CustomSyntax.{custom_starts}
use Rattle.wast_module_fields.specs.FieldWords.{field_words, words_behind}
use Rattle.wast_module_fields.proofs.Grouped.{asked_as_one, groups}
use Rattle.wast_module_fields.proofs.field.ModuleFieldPeek.peek.Goals as goal

pub returns : goal.returns
returns c =
    subst (Asks c.or_peek.result (stands c.args.cursor).source) (asked_as_one (codes "type") words_behind custom_starts (ahead (stands c.args.cursor)))
    (c.or_peek.ensures (groups field_words ∷ []) refl c.peek_group_among-found.ensures)
