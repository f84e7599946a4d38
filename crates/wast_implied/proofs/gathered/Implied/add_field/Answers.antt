use Rattle.std.proofs.Common.{ap, sym}
use Rattle.std.specs.List.{flat_map}
use Rattle.wast_imports.specs.ImportViews.{imports_tree}
use Rattle.wast_meaning.specs.Mentions.{says, import_mentions, part_mentions}
use Rattle.wast_implied.specs.Views.{known}
use Rattle.wast_meaning.proofs.SettledFields.{said_parts}
use Rattle.wast_implied.proofs.Quiet.{used}
use Rattle.wast_implied.proofs.OtherFields.{other_field}
use Rattle.wast_implied.proofs.Retold.{retold}
use Rattle.wast_implied.proofs.gathered.Implied.add_field.Goals as goal

pub returns-in_default : goal.returns-in_default
returns-in_default c = other_field (known c.args.self.now) c.args.field.now c.in_default.not-Import c.in_default.not-Func c.in_default.not-Table c.in_default.not-Global c.in_default.not-Elem c.in_default.not-Data c.in_default.not-Tag

pub returns-in-Import : goal.returns-in-Import
returns-in-Import c =
    let ms = import_mentions (imports_tree c.in-Import.imports).items in
    rw (c.in-Import.is) (retold c.add_imports.result c.in-Import.imports.span (known c.args.self.now) (known c.add_imports.new.self) ms (flat_map part_mentions (says ms)) (ap used (sym (said_parts ms))) c.add_imports.ensures)
